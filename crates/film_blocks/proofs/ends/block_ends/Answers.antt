use Rattle.std.proofs.Common.{◌≡◌, length, arith}
use Rattle.film_blocks.proofs.EndSteps.{ends_go_on, ends_stop, blocks_more}
use Rattle.film_blocks.proofs.ends.block_ends.Goals as goal

pub loop-link-preserved : goal.loop-link-preserved
loop-link-preserved c =
    let i = c.loop-link.link-index in
    let link = c.link-item.result in
    let more = blocks_more i c.args.links.now link c.loop-link-test.true c.link-item.is in
    let len : c.len.result ≡ length link.blocks.items = omega (arith, c.len.ensures, link.blocks.ok) in
    rw len (record {
      ends = ends_go_on i c.loop-link.end c.args.links.now link c.loop-link.ends.items c.push.new.self.items _ c.loop-link-test.true c.link-item.is (rw len at c.in_ok-push.ensures.items) c.loop-link.invariant.ends;
      room = omega (arith, more, c.loop-link.invariant.room);
    })

pub returns : goal.returns
returns c = ends_stop c.loop-link.link-index c.loop-link.end c.args.links.now c.loop-link.ends.items _ c.loop-link-test.false c.loop-link.invariant.ends
