-- One of the parts of a list.
use Rattle.std.proofs.Common.{◌≡◌, ℕ, zero, suc, ◌+◌, ◌*◌, ◌≤◌, ◌<◌, List, [], take, drop, get_or, refl, ap, ◌∙◌, arith}
use Rattle.std.proofs.lemmas.List.{drop-drop, get_or_past}
use Rattle.model_cursor.specs.FrameLists.{parts_of}
use Rattle.model_cursor.proofs.Parts.{length-parts_of}

pub part_at : {A : Type 0} (count size : ℕ) (xs : List A) (i : ℕ) → i < count → get_or (parts_of count size xs) i [] ≡ take size (drop (i * size) xs)
unfolding parts_of
part_at zero size xs i lt = absurd (omega arith)
part_at (suc count) size xs zero lt = let e : 0 * size ≡ 0 = omega arith in rw e refl
part_at (suc count) size xs (suc i) lt =
    let e : size + i * size ≡ suc i * size = omega arith in
    part_at count size (drop size xs) i (omega arith) ∙ ap (λ ys. take size ys) (drop-drop (i * size) size xs ∙ ap (λ (k : ℕ). drop k xs) e)

pub part_past : {A : Type 0} (count size : ℕ) (xs : List A) (i : ℕ) → count ≤ i → get_or (parts_of count size xs) i [] ≡ []
part_past count size xs i le = let all = length-parts_of count size xs in get_or_past (parts_of count size xs) i [] (omega arith)
