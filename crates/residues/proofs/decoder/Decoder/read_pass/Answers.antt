use Rattle.std.proofs.Common.{◌≡◌, true, false, refl, subst, arith}
use Rattle.std.specs.List.{range_with_len, flat_map}
use Rattle.std.specs.Int.{div_ceil}
use Rattle.model_setup.specs.ResidueDecoding.{group_steps, pass_steps}
use Rattle.residues.specs.Decoders.{Leads, step_of}
use Rattle.residues.proofs.Leads.{leads_next, leads_ends}
use Rattle.residues.proofs.Steps.{step_kept}
use Rattle.residues.proofs.decoder.Decoder.read_pass.Goals as goal

pub returns-in_err-read_group : goal.returns-in_err-read_group
unfolding pass_steps
returns-in_err-read_group c =
    let d = c.args.self.now in
    let i = c.loop-group.group in
    let part = group_steps d.partitions d.classwords d.wanted.now c.args.pass in
    let old = c.args.workspace.now in
    let now = c.loop-group.workspace in
    rw c.from_residual.ensures (leads_ends (step_of d) d part 0 i i old now c.read_group.new.workspace false (omega arith) c.loop-group.invariant c.in_err-read_group.ensures (step_kept d) (div_ceil d.partitions d.classwords) (omega arith) refl)

pub loop-group-preserved : goal.loop-group-preserved
loop-group-preserved c =
    let d = c.args.self.now in
    let i = c.loop-group.group in
    let part = group_steps d.partitions d.classwords d.wanted.now c.args.pass in
    let old = c.args.workspace.now in
    let now = c.loop-group.workspace in
    leads_next (step_of d) d part 0 i i old now c.read_group.new.workspace true (omega arith) c.loop-group.invariant c.in_ok-read_group.ensures

pub returns : goal.returns
unfolding pass_steps
returns c =
    let d = c.args.self.now in
    let i = c.loop-group.group in
    let part = group_steps d.partitions d.classwords d.wanted.now c.args.pass in
    let old = c.args.workspace.now in
    let now = c.loop-group.workspace in
    let all : i ≡ div_ceil d.partitions d.classwords = omega arith in
    subst (λ k. Leads d (flat_map part (range_with_len 0 k)) old now true) all c.loop-group.invariant
