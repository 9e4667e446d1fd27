use Rattle.std.proofs.Common.{◌<◌, [], false, length, refl, ap, ◌∙◌}
use Rattle.model_setup.specs.ResidueSetup.{ResidueSetup}
use Rattle.model_setup.specs.ResidueDecoding.{reading_places, after_reading}
use Rattle.residues.specs.Decoders.{readings_of}
use Rattle.residues.proofs.Leads.{leads_cut}
use Rattle.residues.proofs.Steps.{reading_kept}
use Rattle.residues.proofs.decoder.Decoder.read_values.Goals as goal

pub returns-in_err-read_entry : goal.returns-in_err-read_entry
returns-in_err-read_entry c =
    let d = c.args.self.now in
    let book = c.args.book.now in
    let first = c.args.first in
    let readings = readings_of d book first in
    let count = c.reading_count-count.ensures first ∙ ap (λ (r : ResidueSetup). length (reading_places r.kind first r.partition_size c.dimensions.result)) c.residue.view_is
    ∙ ap (λ n. length (reading_places d.residue.now.kind first d.residue.now.partition_size n)) c.dimensions.ensures.dimensions in
    let lt : c.loop-reading.reading < length readings = rw count at c.loop-reading-test.true in
    rw c.from_residual.ensures
    (leads_cut (after_reading book c.args.vector) d readings c.loop-reading.reading [] c.args.workspace.now c.loop-reading.workspace c.read_entry.new.workspace false lt c.loop-reading.invariant c.in_err-read_entry.ensures (reading_kept book c.args.vector d) refl)
