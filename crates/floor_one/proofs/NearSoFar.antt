-- The nearest of the first points, below a line and above it, as a loop over the points finds them.
use Rattle.std.proofs.Common.{◌≡◌, ℕ, ◌+◌, ◌<◌, ◌≤◌, List, length, get_or, ◌⊎◌, inl, inr, ap, sym, ◌∙◌, arith, unwrap_or, true}
use Rattle.std.proofs.lemmas.Bool.{cases_lt, cases_order, ltb-true, lt-ltb}
use Rattle.std.specs.Prelude.{nat_lt}
use Rattle.model_setup.specs.FloorSetup.{ArePoints}
use Rattle.model_setup.specs.FloorCurve.{low_neighbour, high_neighbour}
use Rattle.floor_one.specs.declared.points.Neighbours.{Neighbours}
use Rattle.floor_one.proofs.Nearest.{nearest_below_is, nearest_above_is}

-- of the first points, none below a line is nearer than this one
pub record IsLowSoFar (xs : List ℕ) (x count low : ℕ) : Type 0 where
  pub among : low < count
  pub below : get_or xs low 0 < x
  pub clear : (m : ℕ) → m < count → (get_or xs m 0 ≤ get_or xs low 0) ⊎ (x ≤ get_or xs m 0)

-- of the first points, none above a line is nearer than this one
pub record IsHighSoFar (xs : List ℕ) (x count high : ℕ) : Type 0 where
  pub among : high < count
  pub above : x < get_or xs high 0
  pub clear : (m : ℕ) → m < count → (get_or xs high 0 ≤ get_or xs m 0) ⊎ (get_or xs m 0 ≤ x)

module _ (xs : List ℕ) (i : ℕ) (points : ArePoints xs) (behind : 2 ≤ i) (within : i < length xs) where
  over_first : get_or xs 0 0 < get_or xs i 0
  over_first = elim (cases_order (get_or xs 0 0) (get_or xs i 0)) [
    | inl e ↦ let same = points.apart 0 i (omega arith) within e in absurd (omega arith)
    | inr (inl l) ↦ l
    | inr (inr g) ↦ let first = points.first in absurd (omega arith)
  ]

  under_second : get_or xs i 0 < get_or xs 1 0
  under_second = points.second i within (λ e. omega arith)

  pub low_first : IsLowSoFar xs (get_or xs i 0) 2 0
  low_first = record {
    among = omega arith;
    below = over_first;
    clear = λ m h. elim (cases_lt m 1) [
      | inl z ↦ let e : m ≡ 0 = omega arith in inl (rw e (omega arith))
      | inr o ↦ let e : m ≡ 1 = omega arith in inr (rw e (let u = under_second in omega arith))
    ];
  }

  pub high_first : IsHighSoFar xs (get_or xs i 0) 2 1
  high_first = record {
    among = omega arith;
    above = under_second;
    clear = λ m h. elim (cases_lt m 1) [
      | inl z ↦ let e : m ≡ 0 = omega arith in inr (rw e (let u = over_first in omega arith))
      | inr o ↦ let e : m ≡ 1 = omega arith in inl (rw e (omega arith))
    ];
  }

  pub low_is : (count low : ℕ) → count ≡ i → IsLowSoFar xs (get_or xs i 0) count low → low ≡ low_neighbour xs i
  unfolding low_neighbour
  low_is count low all so_far =
      let here : nat_lt low i ≡ true = lt-ltb low i (let a = so_far.among in omega arith) in
      let found = nearest_below_is xs (λ n. nat_lt n i) (get_or xs i 0) low points.apart (let a = so_far.among in omega arith) here so_far.below (λ m l t. so_far.clear m (let u = ltb-true m i t in omega arith)) in
      sym (ap (λ o. unwrap_or o 0) found)

  pub high_is : (count high : ℕ) → count ≡ i → IsHighSoFar xs (get_or xs i 0) count high → high ≡ high_neighbour xs i
  unfolding high_neighbour
  high_is count high all so_far =
      let here : nat_lt high i ≡ true = lt-ltb high i (let a = so_far.among in omega arith) in
      let found = nearest_above_is xs (λ n. nat_lt n i) (get_or xs i 0) high points.apart (let a = so_far.among in omega arith) here so_far.above (λ m l t. so_far.clear m (let u = ltb-true m i t in omega arith)) in
      sym (ap (λ o. unwrap_or o 1) found)

module _ (xs : List ℕ) (x n : ℕ) where
  pub low_takes : (low : ℕ) → IsLowSoFar xs x n low → get_or xs n 0 < x → get_or xs low 0 < get_or xs n 0 → IsLowSoFar xs x (n + 1) n
  low_takes low so_far under nearer = record {
    among = omega arith;
    below = under;
    clear = λ m h. elim (cases_lt m n) [
      | inl l ↦ elim (so_far.clear m l) [ inl a ↦ inl (omega arith) | inr b ↦ inr b ]
      | inr g ↦ let e : m ≡ n = omega arith in inl (rw e (omega arith))
    ];
  }

  pub low_keeps : (low : ℕ) → IsLowSoFar xs x n low → ((get_or xs n 0 ≤ get_or xs low 0) ⊎ (x ≤ get_or xs n 0)) → IsLowSoFar xs x (n + 1) low
  low_keeps low so_far still = record {
    among = let a = so_far.among in omega arith;
    below = so_far.below;
    clear = λ m h. elim (cases_lt m n) [
      | inl l ↦ so_far.clear m l
      | inr g ↦ let e : m ≡ n = omega arith in rw e still
    ];
  }

  pub high_takes : (high : ℕ) → IsHighSoFar xs x n high → x < get_or xs n 0 → get_or xs n 0 < get_or xs high 0 → IsHighSoFar xs x (n + 1) n
  high_takes high so_far over nearer = record {
    among = omega arith;
    above = over;
    clear = λ m h. elim (cases_lt m n) [
      | inl l ↦ elim (so_far.clear m l) [ inl a ↦ inl (omega arith) | inr b ↦ inr b ]
      | inr g ↦ let e : m ≡ n = omega arith in inl (rw e (omega arith))
    ];
  }

  pub high_keeps : (high : ℕ) → IsHighSoFar xs x n high → ((get_or xs high 0 ≤ get_or xs n 0) ⊎ (get_or xs n 0 ≤ x)) → IsHighSoFar xs x (n + 1) high
  high_keeps high so_far still = record {
    among = let a = so_far.among in omega arith;
    above = so_far.above;
    clear = λ m h. elim (cases_lt m n) [
      | inl l ↦ so_far.clear m l
      | inr g ↦ let e : m ≡ n = omega arith in rw e still
    ];
  }

pub neighbours_same : (found : Neighbours) (low high : ℕ) → found.low ≡ low → found.high ≡ high → found ≡ record { low = low; high = high }
neighbours_same found low high e f =
    let one : ℕ → Neighbours = λ n. record { low = n; high = found.high } in
    let two : ℕ → Neighbours = λ n. record { low = low; high = n } in
    ap one e ∙ ap two f
