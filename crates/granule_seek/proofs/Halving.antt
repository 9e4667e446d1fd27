-- What a search by halves keeps, and what it costs.
use Rattle.std.proofs.Common.{◌≡◌, ℕ, suc, ◌+◌, ◌-◌, ◌*◌, ◌^◌, ◌<◌, ◌≤◌, List, length, get_or, ap, ◌∙◌, arith, Some}
use Rattle.std.specs.List.{slice_get}
use Rattle.std.specs.List.Sorted.{IsNonDecreasing}
use Rattle.std.proofs.lemmas.Option.{get_or_from_slice_get}
use Rattle.std.proofs.Math.Nat.{pow-succ', mul-le-mul_left}

-- ---- the cost

-- one step more doubles the power
twice : (old new next : ℕ) → old ≤ new → next ≡ new + 1 → 2 ^ (next - old) ≡ 2 * 2 ^ (new - old)
twice old new next h n = let e : next - old ≡ suc (new - old) = omega arith in ap (λ k. 2 ^ k) e ∙ pow-succ' 2 (new - old)

-- while something is left, twice the power of the steps is at most twice what there was
cost_next : (power left all : ℕ) → 0 < left → power * left ≤ all → 2 * power ≤ 2 * all + 1
cost_next power left all some h =
    let one : 1 ≤ left = omega arith in
    let least : power * 1 ≤ power * left = mul-le-mul_left power one in
    omega arith

-- and at most half of it is left after a step
left_next : (power left rest all : ℕ) → 2 * rest ≤ left → power * left ≤ all → 2 * power * rest ≤ all
left_next power left rest all half h =
    let least : power * (2 * rest) ≤ power * left = mul-le-mul_left power half in
    omega arith

-- The cost so far, where some numbers are left of all: the power of the steps, and the power times
-- what is left.
pub record Costs (old new left all : ℕ) : Type 0 where
  pub later : old ≤ new
  pub power : 2 ^ (new - old) ≤ 2 * all + 1
  pub parts : 2 ^ (new - old) * left ≤ all

costs_next : (old new next left rest all : ℕ) → Costs old new left all → next ≡ new + 1 → 0 < left → 2 * rest ≤ left → Costs old next rest all
costs_next old new next left rest all c n some half = record {
  later = let h = c.later in omega arith;
  power = rw (twice old new next c.later n) (cost_next (2 ^ (new - old)) left all some c.parts);
  parts = rw (twice old new next c.later n) (left_next (2 ^ (new - old)) left rest all half c.parts);
}

-- ---- the halves

-- The numbers before `low` are at most p, and those from `high` on are more.
pub record Halved (numbers : List ℕ) (p low high old new : ℕ) : Type 0 where
  pub order : low ≤ high
  pub within : high ≤ length numbers
  pub below : (k : ℕ) → k < low → get_or numbers k 0 ≤ p
  pub above : (k : ℕ) → high ≤ k → k < length numbers → p < get_or numbers k 0
  pub costs : Costs old new (high - low) (length numbers)

-- the numbers behind the middle are left, which are at most half of those before
pub low_next : (numbers : List ℕ) (p low high old new middle next value : ℕ) → Halved numbers p low high old new → IsNonDecreasing numbers → slice_get numbers middle ≡ Some value → value ≤ p → low ≤ middle → middle < high → 2 * (high - (middle + 1)) ≤ high - low → next ≡ new + 1 → Halved numbers p (middle + 1) high old next
low_next numbers p low high old new middle next value h rises at here ge lt half n =
    let within : high ≤ length numbers = h.within in
    let is : get_or numbers middle 0 ≡ value = get_or_from_slice_get numbers middle value 0 at in
    record {
      order = omega arith;
      within = h.within;
      below = λ k lower. let up : get_or numbers k 0 ≤ get_or numbers middle 0 = rises k middle 0 (omega arith) (omega arith) in omega arith;
      above = h.above;
      costs = costs_next old new next (high - low) (high - (middle + 1)) (length numbers) h.costs n (omega arith) half;
    }

-- those before the middle are left
pub high_next : (numbers : List ℕ) (p low high old new middle next value : ℕ) → Halved numbers p low high old new → IsNonDecreasing numbers → slice_get numbers middle ≡ Some value → p < value → low ≤ middle → middle < high → 2 * (middle - low) ≤ high - low → next ≡ new + 1 → Halved numbers p low middle old next
high_next numbers p low high old new middle next value h rises at here ge lt half n =
    let within : high ≤ length numbers = h.within in
    let is : get_or numbers middle 0 ≡ value = get_or_from_slice_get numbers middle value 0 at in
    record {
      order = ge;
      within = omega arith;
      below = h.below;
      above = λ k upper inside. let up : get_or numbers middle 0 ≤ get_or numbers k 0 = rises middle k 0 upper inside in omega arith;
      costs = costs_next old new next (high - low) (middle - low) (length numbers) h.costs n (omega arith) half;
    }
