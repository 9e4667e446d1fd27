use Rattle.std.proofs.Common.{◌≡◌, ◌-◌, List, length, take, drop, ℕ, ◌∙◌, arith, length-drop}
use Rattle.std.proofs.lemmas.List.{take_all}
use Rattle.setup_fields.proofs.Puts.{first_place, next_places}
use Rattle.floor_one.proofs.points.Points.write.Goals as goal

behind_two : (xs : List ℕ) → take (length xs - 2) (drop 2 xs) ≡ drop 2 xs
behind_two xs = take_all (length xs - 2) (drop 2 xs) (omega (arith, length-drop 2 xs))

pub put_number-requires-clause-fits : goal.put_number-requires-clause-fits
put_number-requires-clause-fits c = rw c.range_bits-width.ensures.value (first_place c.requires)

pub put_words-requires-clause-fits : goal.put_words-requires-clause-fits
put_words-requires-clause-fits c =
    let is : c.deref.result.now ≡ c.args.self.now = c.deref.ensures.0 ∙ c.self.view_is in
    rw (behind_two c.deref.result.now, is, c.range_bits-width.ensures.value) (next_places c.requires)
