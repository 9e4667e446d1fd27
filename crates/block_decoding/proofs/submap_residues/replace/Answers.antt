use Rattle.std.proofs.Common.{rules, arith, ◌≡◌, length, drop, ap, length-drop}
use Rattle.block_decoding.proofs.Puts.{put_on, put_end}
use Rattle.block_decoding.proofs.submap_residues.replace.Goals as goal

pub loop-channel-preserved : goal.loop-channel-preserved
loop-channel-preserved c =
    let lines = c.loop-channel.lines.items in
    let rest : c.remove.new.self.items ≡ drop 1 c.loop-channel.lines.items = c.remove.ensures.items in
    record {
      put = put_on c.loop-channel.all c.args.channels.now c.loop-channel.channel-index 0 lines c.remove.new.self.items c.remove.result _ c.loop-channel-test.true c.loop-channel.invariant.count c.remove.ensures.value rest c.loop-channel.invariant.put;
      count = omega (arith, ap length rest, length-drop 1 lines, c.loop-channel.invariant.count, c.loop-channel-test.true);
      room = search rules;
    }

pub returns : goal.returns
returns c = put_end c.loop-channel.all c.args.channels.now c.loop-channel.channel-index c.loop-channel.lines.items _ c.loop-channel-test.false c.loop-channel.invariant.put
