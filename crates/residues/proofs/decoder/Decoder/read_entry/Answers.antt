use Rattle.std.proofs.Common.{◌≡◌, ◌≤◌, [], true, ◌+◌, ◌*◌, length, get_or, set, take, refl, ap, sym, ◌∙◌, arith, length-take}
use Rattle.std.proofs.lemmas.List.FromFn.{length-map-range_with_len}
use Rattle.model_setup.specs.ResidueSetup.{ResidueSetup}
use Rattle.model_setup.specs.Vectors.{vector_at}
use Rattle.model_setup.specs.ResidueDecoding.{after_reading, with_values, add_all, vector_in, reading_places}
use Rattle.residues.specs.Layout.{run_places}
use Rattle.residues.specs.Decoders.{most_values, state, state_of, vectors_of, readings_of}
use Rattle.residues.proofs.FirstValues.{first_values_read, length_refilled}
use Rattle.residues.proofs.decoder.Decoder.read_entry.Goals as goal

pub returns-in_err-first_values : goal.returns-in_err-first_values
unfolding after_reading
returns-in_err-first_values c =
    let d = c.args.self.now in
    let now = state_of d c.args.workspace.now true in
    let places = get_or (readings_of d c.args.book.now c.args.first) c.args.reading [] in
    let values = c.args.workspace.now.values.now in
    let many = length_refilled c.first_values.new.out values c.run_of-run.result.count c.first_values.auto.out in
    let room = c.requires.room in
    rw (c.in_err-first_values.ensures.finished, c.from_residual.ensures) (record {
      after = sym (ap (with_values c.args.vector now places) c.in_err-first_values.ensures.ended);
      room = record { decoder = room.decoder; layout = room.layout; rows = room.rows; values = rw many room.values };
      parts = record { bits = refl; bytes = c.in_err-first_values.ensures.bytes; lines = refl; line_count = refl };
    })

pub returns : goal.returns
unfolding after_reading most_values
returns c =
    let d = c.args.self.now in
    let old = c.args.workspace.now in
    let run = c.run_of-run.result in
    let classes = old.classes.now in
    let vectors = vectors_of d old.lines.now in
    let after = c.first_values.new.bits.left in
    let places = get_or (readings_of d c.args.book.now c.args.first) c.args.reading [] in
    let run_is : run_places run.first run.stride run.count ≡ places =
    c.run_of-run.ensures.places ∙ ap (λ (r : ResidueSetup). get_or (reading_places r.kind c.args.first r.partition_size c.dimensions.result) c.args.reading []) c.residue.view_is
    ∙ ap (λ n. get_or (reading_places d.residue.now.kind c.args.first d.residue.now.partition_size n) c.args.reading []) c.dimensions.ensures.dimensions in
    let many : length places ≡ run.count = ap length (sym run_is) ∙ length-map-range_with_len (λ j. run.first + j * run.stride) 0 run.count in
    let size : c.residue.inside.partition_size ≡ d.residue.now.partition_size = ap (λ (r : ResidueSetup). r.partition_size) c.residue.view_is in
    let room = c.requires.room in
    let values = room.values in
    let few = c.run_of-run.ensures.few in
    let enough : length places ≤ length (take run.count old.values.now) = omega (arith, length-take run.count old.values.now) in
    let filled = length_refilled c.first_values.new.out old.values.now run.count c.first_values.auto.out in
    let added = c.add.ensures.added ∙ ap (λ p. set vectors c.args.vector (add_all (vector_in vectors c.args.vector) p c.first_values.new.out)) run_is in
    record {
      after = ap (λ vs. state vs classes after true) added
          ∙ sym (first_values_read vectors classes old.bits.now.left after c.args.vector (length (take run.count old.values.now)) places c.first_values.new.out (vector_at c.args.book.now old.bits.now.left) enough c.in_ok-first_values.ensures.found);
      room = record { decoder = room.decoder; layout = c.add.ensures.lines; rows = room.rows; values = rw filled values };
      parts = record { bits = refl; bytes = c.in_ok-first_values.ensures.bytes; lines = refl; line_count = c.add.auto.lines };
    }
