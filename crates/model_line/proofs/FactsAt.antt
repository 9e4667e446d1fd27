-- The facts of a link, by its number.
use Rattle.std.proofs.Common.{◌≡◌, ℕ, zero, suc, ◌+◌, List, [], ◌∷◌, length, option_map, refl, ap, ◌∙◌, arith}
use Rattle.std.specs.List.{slice_get}
use Rattle.model_line.specs.declared.row.LinkRows.{LinkRows}
use Rattle.model_line.specs.Index.{facts_of, facts_from}

pub slice_get-facts : (n : ℕ) (links : List LinkRows) (i : ℕ) → slice_get (facts_from n links) i ≡ option_map (facts_of (n + i)) (slice_get links i)
unfolding facts_from
slice_get-facts n [] i = refl
slice_get-facts n (link ∷ links) zero = let e : n + 0 ≡ n = omega arith in rw e refl
slice_get-facts n (link ∷ links) (suc i) = let e : n + 1 + i ≡ n + suc i = omega arith in slice_get-facts (n + 1) links i ∙ ap (λ (k : ℕ). option_map (facts_of k) (slice_get links i)) e

pub length-facts : (n : ℕ) (links : List LinkRows) → length (facts_from n links) ≡ length links
unfolding facts_from
length-facts n [] = refl
length-facts n (link ∷ links) = ap suc (length-facts (n + 1) links)
