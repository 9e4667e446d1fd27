use Rattle.std.proofs.Common.{rules, arith, ◌≡◌, length, ap, ◌∙◌}
use Rattle.std.proofs.lemmas.Grind.{common_steps}
use Rattle.model_synthesis.specs.Coupling.{without_steps}
use Rattle.block_decoding.proofs.PartSteps.{parts_are}
use Rattle.block_decoding.proofs.block.read_parts.Goals as goal

pub returns-clause-read : goal.returns-clause-read
returns-clause-read c =
    let apart : c.uncouple_all.new.channels ≡ without_steps c.args.mapping.now.couplings c.in_ok-residues.residues.items = search rules in
    let whole = parts_are c.args.setup.now c.args.mapping.now c.args.size c.args.bits.now.left c.read_curves.new.bits.left c.read_residues.new.bits.left c.in_ok-curves.curves.items c.in_ok-wanted.wanted.items c.in_ok-residues.residues.items c.uncouple_all.new.channels
    c.in_ok-curves.ensures.read (search rules) (search rules) apart in
    let count : length c.uncouple_all.new.channels ≡ length c.in_ok-residues.residues.items = c.uncouple_all.auto.channels ∙ ap length c.deref_mut.ensures.value in
    grind (arith, common_steps, whole, count)
