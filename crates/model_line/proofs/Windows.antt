-- A window of the values of numbers from one on.
use Rattle.std.proofs.Common.{◌≡◌, ℕ, zero, suc, ◌+◌, ◌-◌, ◌≤◌, List, map, take, drop, refl, ap, sym, ◌∙◌, arith, zero-add}
use Rattle.std.specs.Prelude.{slice_range}
use Rattle.std.specs.List.{range_with_len}
use Rattle.std.proofs.lemmas.List.FromFn.{take-map-range_with_len}

-- a window of the frames of numbers from one on
range_window : {A : Type 0} (f : ℕ → A) (m n from count : ℕ) → from + count ≤ n → take count (drop from (map f (range_with_len m n))) ≡ map f (range_with_len (m + from) count)
range_window f m n zero count h = let e : m + 0 ≡ m = omega arith in rw e (take-map-range_with_len f m n count (omega arith))
range_window f m zero (suc from) zero h = refl
range_window f m zero (suc from) (suc count) h = absurd (omega arith)
range_window f m (suc n) (suc from) count h =
    let e : m + 1 + from ≡ m + suc from = omega arith in
    rw (sym e) (range_window f (m + 1) n from count (omega arith))

pub window : {A : Type 0} (f : ℕ → A) (n from to : ℕ) → from ≤ to → to ≤ n → slice_range (map f (range_with_len 0 n)) from to ≡ map f (range_with_len from (to - from))
window f n from to le within = range_window f 0 n from (to - from) (omega arith) ∙ ap (λ (k : ℕ). map f (range_with_len k (to - from))) (zero-add from)
