use Rattle.std.proofs.Common.{◌≡◌, true, false, refl, subst, arith}
use Rattle.std.specs.List.{range_with_len, flat_map}
use Rattle.model_setup.specs.ResidueDecoding.{pass_steps, steps}
use Rattle.residues.specs.Decoders.{Leads, step_of}
use Rattle.residues.proofs.Leads.{leads_next, leads_ends}
use Rattle.residues.proofs.Steps.{step_kept}
use Rattle.residues.proofs.decoder.Decoder.read_passes.Goals as goal

pub returns-in_err-read_pass : goal.returns-in_err-read_pass
unfolding steps
returns-in_err-read_pass c =
    let d = c.args.self.now in
    let i = c.loop-pass.pass in
    let part = pass_steps d.partitions d.classwords d.wanted.now in
    let old = c.args.workspace.now in
    let now = c.loop-pass.workspace in
    rw c.from_residual.ensures (leads_ends (step_of d) d part 0 i i old now c.read_pass.new.workspace false (omega arith) c.loop-pass.invariant c.in_err-read_pass.ensures (step_kept d) 8 c.loop-pass-test.true refl)

pub loop-pass-preserved : goal.loop-pass-preserved
loop-pass-preserved c =
    let d = c.args.self.now in
    let i = c.loop-pass.pass in
    let part = pass_steps d.partitions d.classwords d.wanted.now in
    let old = c.args.workspace.now in
    let now = c.loop-pass.workspace in
    leads_next (step_of d) d part 0 i i old now c.read_pass.new.workspace true (omega arith) c.loop-pass.invariant c.in_ok-read_pass.ensures

pub returns : goal.returns
unfolding steps
returns c =
    let d = c.args.self.now in
    let i = c.loop-pass.pass in
    let part = pass_steps d.partitions d.classwords d.wanted.now in
    let old = c.args.workspace.now in
    let now = c.loop-pass.workspace in
    let all : i ≡ 8 = omega arith in
    subst (λ k. Leads d (flat_map part (range_with_len 0 k)) old now true) all c.loop-pass.invariant
