-- The first packet part of a page, one lacing value at a time.
use Rattle.std.proofs.Common.{◌≡◌, ℕ, ◌+◌, ◌<◌, ◌≤◌, List, length, drop, get_or, sum, refl, ◌∙◌}
use Rattle.std.proofs.lemmas.Bool.{lt-ltb, le-ltb}
use Rattle.std.proofs.lemmas.List.{at_drop_more, drop_all}
use Rattle.std.proofs.lemmas.List.Sums.{sum_by-cons}
use Rattle.model_ogg.specs.Streams.{first_part_len}

pub part-goes_on : (laces : List ℕ) (i : ℕ) → i < length laces → 255 ≤ get_or laces i 0 → first_part_len (drop i laces) ≡ get_or laces i 0 + first_part_len (drop (i + 1) laces)
unfolding first_part_len
part-goes_on laces i lt le = let more = at_drop_more first_part_len laces i 0 lt in rw (le-ltb (get_or laces i 0) 255 le) at more

pub part-ends : (laces : List ℕ) (i : ℕ) → i < length laces → get_or laces i 0 < 255 → first_part_len (drop i laces) ≡ get_or laces i 0
unfolding first_part_len
part-ends laces i lt small = let more = at_drop_more first_part_len laces i 0 lt in rw (lt-ltb (get_or laces i 0) 255 small) at more

pub part-none : (laces : List ℕ) (i : ℕ) → length laces ≤ i → first_part_len (drop i laces) ≡ 0
unfolding first_part_len
part-none laces i le = rw (drop_all i laces le) refl

pub sum-more : (laces : List ℕ) (i : ℕ) → i < length laces → sum (drop i laces) ≡ get_or laces i 0 + sum (drop (i + 1) laces)
sum-more laces i lt = at_drop_more sum laces i 0 lt ∙ sum_by-cons (λ x. x) (get_or laces i 0) (drop (i + 1) laces)

pub sum-none : (laces : List ℕ) (i : ℕ) → length laces ≤ i → sum (drop i laces) ≡ 0
sum-none laces i le = rw (drop_all i laces le) refl

pub ruleset part_laws = (part-goes_on, part-ends, part-none, sum-more, sum-none)
