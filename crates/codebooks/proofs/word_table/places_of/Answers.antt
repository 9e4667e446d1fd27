use Rattle.std.proofs.Common.{◌≡◌, length, get_or, sym, ◌∙◌}
use Rattle.std.proofs.lemmas.List.{get_or_default}
use Rattle.std.proofs.Math.Seq.{take-append_seam}
use Rattle.model_setup.specs.declared.book.Word.{Word}
use Rattle.codebooks.proofs.word_table.places_of.Goals as goal

abbrev none : Word
none = record { entry = 0; len = 0; start = 0 }

pub loop-word-preserved : goal.loop-word-preserved
loop-word-preserved c =
    let words = c.args.words.now in
    let k = c.loop-word.word-index in
    let w = get_or words k none in
    let within = c.loop-word-test.true in
    let same : c.loop-word.places.len ≡ length c.write_places.new.places = c.loop-word.places.ok.0 ∙ c.loop-word.invariant.count ∙ sym c.write_places.ensures.count in
    rw (same, take-append_seam) (c.write_places.ensures.places words (k, within, get_or_default words k w none within) (rw c.deref_mut.ensures.value c.loop-word.invariant))
