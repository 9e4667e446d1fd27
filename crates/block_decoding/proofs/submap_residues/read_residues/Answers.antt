use Rattle.std.proofs.Common.{rules, arith, ◌≡◌, ◌<◌, [], ◌+◌, ◌++◌, take, drop, length, get_or, replicate, ap, sym, subst, ◌∙◌}
use Rattle.std.specs.Prelude.{fold}
use Rattle.std.specs.List.{range_with_len}
use Rattle.std.proofs.lemmas.Grind.{common_steps}
use Rattle.model_setup.specs.ResidueSetup.{ResidueSetup}
use Rattle.model_setup.specs.SetupPacket.{Submap, IsSubmap}
use Rattle.model_block.specs.PacketParts.{with_submap, channel_residues, replaced}
use Rattle.block_decoding.proofs.Puts.{AreRead, lines_on}
use Rattle.block_decoding.proofs.SubmapSteps.{residue_is, submap_on, channels_are}
use Rattle.block_decoding.proofs.submap_residues.read_residues.Goals as goal

pub loop-number-preserved : goal.loop-number-preserved
loop-number-preserved c =
    let setup = c.args.setup.now in
    let mapping = c.args.mapping.now in
    let k = c.loop-number.number in
    let s : Submap = c.index-submaps-number.result in
    let r : ResidueSetup = c.index-residues-from.result in
    let lt : c.loop-number.number < length c.args.mapping.now.submaps = omega (arith, c.loop-number-test.true, ap length c.submaps-submaps.ensures) in
    let s-is : c.index-submaps-number.result ≡ get_or c.args.mapping.now.submaps c.loop-number.number c.index-submaps-number.result = search rules in
    let there : c.index-submaps-number.result.residue < length c.args.setup.now.residues =
    (subst (IsSubmap (length c.args.setup.now.floors) (length c.args.setup.now.residues)) (sym s-is) (c.requires.mapping.submaps k s lt)).residue in
    let r-is : c.index-residues-from.result ≡ get_or c.args.setup.now.residues c.index-submaps-number.result.residue c.index-residues-from.result = search rules in
    let put : c.replace.new.all ≡ replaced c.loop-number.all.items c.in_ok-channels.channels.items c.in_ok-lines.lines.items = search rules in
    let read = submap_on setup mapping c.args.size c.args.wanted.now k (replicate (length c.args.mapping.now.mux) [], c.args.bits.now.left) c.loop-number.all.items c.in_ok-lines.lines.items c.replace.new.all
    c.loop-number.bits.left c.read_lines.new.bits.left c.in_ok-flags.flags.items c.in_ok-channels.channels.items r c.loop-number.invariant.read (search rules) (search rules) (residue_is setup mapping k s r lt there s-is r-is) (search rules) put in
    let count : length c.replace.new.all ≡ length c.loop-number.all.items = c.replace.auto.all ∙ ap length c.deref_mut.ensures.value in
    let same : c.replace.new.all ≡ take c.loop-number.all.len (c.replace.new.all ++ drop (length c.replace.new.all) c.loop-number.all.items) = grind (arith, common_steps, count) in
    let lines : length c.in_ok-lines.lines.items ≡ length c.in_ok-channels.channels.items = grind (arith, common_steps) in
    record {
      read = grind (arith, common_steps, read, count);
      count = grind (arith, common_steps, count, c.loop-number.invariant.count);
      lines = subst (AreRead c.args.mapping.now.mux c.args.size (c.loop-number.number + 1)) same
          (lines_on c.args.mapping.now.mux c.args.size k c.loop-number.all.items c.in_ok-lines.lines.items c.replace.new.all c.in_ok-channels.channels.items c.loop-number.invariant.count (search rules) lines
          c.in_ok-lines.ensures.sizes c.in_ok-lines.ensures.small put c.loop-number.invariant.lines);
      bytes = c.read_lines.ensures.bytes ∙ c.loop-number.invariant.bytes;
    }

pub returns-clause-read : goal.returns-clause-read
unfolding channel_residues
returns-clause-read c =
    let end : c.loop-number.number ≡ length c.args.mapping.now.submaps = omega (arith, c.loop-number-test.false, c.loop-number.auto.number-end, ap length c.submaps-submaps.ensures) in
    c.loop-number.invariant.read
    ∙ ap (λ n. fold (with_submap c.args.setup.now c.args.mapping.now c.args.size c.args.wanted.now) (replicate (length c.args.mapping.now.mux) [], c.args.bits.now.left) (range_with_len 0 n)) end

pub returns-clause-channels : goal.returns-clause-channels
returns-clause-channels c =
    let end : length c.args.mapping.now.submaps ≡ c.loop-number.number = omega (arith, c.loop-number-test.false, c.loop-number.auto.number-end, ap length c.submaps-submaps.ensures) in
    channels_are c.args.mapping.now.mux c.args.size c.loop-number.number c.loop-number.all.items c.loop-number.invariant.count (rw end at c.requires.mapping.mux) c.loop-number.invariant.lines
