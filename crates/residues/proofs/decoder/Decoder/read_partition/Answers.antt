use Rattle.std.proofs.Common.{true, false, length, refl, arith}
use Rattle.model_setup.specs.ResidueDecoding.{Part}
use Rattle.residues.specs.Decoders.{step_of}
use Rattle.residues.proofs.Leads.{if_wanted, leads_next, leads_ends, leads_wanted, leads_unwanted}
use Rattle.residues.proofs.Steps.{step_kept}
use Rattle.residues.proofs.decoder.Decoder.read_partition.Goals as goal
use Rattle.residues.proofs.decoder.Decoder.read_partition.Goals.{then-self-vector+in_ok-read_part, else-self-vector}

pub returns-in_err-read_part : goal.returns-in_err-read_part
returns-in_err-read_part c =
    let d = c.args.self.now in
    let wanted = d.wanted.now in
    let v = c.loop-vector.vector in
    let old = c.args.workspace.now in
    let now = c.loop-vector.workspace in
    let new = c.read_part.new.workspace in
    rw c.from_residual.ensures (leads_ends (step_of d) d (if_wanted wanted (Part c.args.pass c.args.partition)) 0 v v old now new false (omega arith) c.loop-vector.invariant
    (leads_wanted d wanted (Part c.args.pass c.args.partition) v now new false c.if-self-vector.true c.in_err-read_part.ensures) (step_kept d) (length wanted) c.loop-vector-test.true refl)

pub loop-vector-preserved : goal.loop-vector-preserved
loop-vector-preserved c =
    let d = c.args.self.now in
    let wanted = d.wanted.now in
    let v = c.loop-vector.vector in
    let old = c.args.workspace.now in
    let now = c.loop-vector.workspace in
    elim c.if-self-vector.branch [
      | then-self-vector+in_ok-read_part w ↦
          let new = w.read_part.new.workspace in
          rw w.workspace-is (leads_next (step_of d) d (if_wanted wanted (Part c.args.pass c.args.partition)) 0 v v old now new true (omega arith) c.loop-vector.invariant
          (leads_wanted d wanted (Part c.args.pass c.args.partition) v now new true w.if-self-vector.true w.in_ok-read_part.ensures))
      | else-self-vector w ↦
          rw w.workspace-is (leads_next (step_of d) d (if_wanted wanted (Part c.args.pass c.args.partition)) 0 v v old now now true (omega arith) c.loop-vector.invariant
          (leads_unwanted d wanted (Part c.args.pass c.args.partition) v now w.if-self-vector.false c.loop-vector.invariant.room))
    ]
