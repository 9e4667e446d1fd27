-- The tables of leaps, computed: each row is the one before it, brought behind as many bytes 0 as the second row of its table.
use Rattle.std.proofs.Common.{◌≡◌, ℕ, zero, suc, ◌+◌, ◌*◌, ◌^◌, ◌<◌, List, [], ◌∷◌, length, get_or, refl, ap, subst, ◌∙◌, arith}
use Rattle.std.specs.Prelude.{map}
use Rattle.std.proofs.Math.Pow.{pow-lt}
use Rattle.std.proofs.lemmas.List.{get_or-map, length-map}
use Rattle.model_ogg.specs.Checksum.{shifted, shifted_times, with_byte}
use Rattle.ogg_pages.specs.Leaps.{xor_of_bits}
use Rattle.ogg_pages.specs.declared.leaps.TheConstants.{SLAB_LEN}
use Rattle.ogg_pages.specs.declared.leap_tables.TheConstants.{LEAPS}
use Rattle.ogg_pages.proofs.Zeros.{after, after-lt, after-after}
use Rattle.ogg_pages.proofs.Bits.{IsRow, row_law}

-- the registers of one bit each, from a bit on
unfoldable units : ℕ → ℕ → List ℕ
units zero i = []
units (suc n) i = 2 ^ i ∷ units n (i + 1)

-- a row brought behind as many bytes 0 as another tells
abbrev brought : List ℕ → List ℕ → List ℕ
brought step row = map (λ r. xor_of_bits r step) row

-- so many rows, each brought on from the one before
unfoldable rows : ℕ → List ℕ → List ℕ → List (List ℕ)
rows zero step row = []
rows (suc n) step row = row ∷ rows n step (brought step row)

-- a row brought on so many times
unfoldable brought_on : ℕ → List ℕ → List ℕ → List ℕ
brought_on zero step row = row
brought_on (suc n) step row = brought_on n step (brought step row)

-- the row of one slab, and that of 32
abbrev slab : List ℕ
slab = map (λ r. after SLAB_LEN r) (units 32 0)

abbrev slabs : List ℕ
slabs = brought_on 32 slab (units 32 0)

LEAPS-rows : LEAPS ≡ rows 32 slab (units 32 0) ∷ rows 32 slabs (units 32 0) ∷ []
unfolding shifted shifted_times with_byte units xor_of_bits rows brought_on
LEAPS-rows = refl

units-long : (n i : ℕ) → length (units n i) ≡ n
unfolding units
units-long zero i = refl
units-long (suc n) i = ap suc (units-long n (i + 1))

units-at : (n i k : ℕ) → k < n → get_or (units n i) k 0 ≡ 2 ^ (i + k)
unfolding units
units-at zero i k lt = absurd (omega arith)
units-at (suc n) i zero lt = ap (λ x. 2 ^ x) (omega arith)
units-at (suc n) i (suc k) lt = units-at n (i + 1) k (omega arith) ∙ ap (λ x. 2 ^ x) (omega arith)

units-row : IsRow 0 (units 32 0)
units-row = record { long = units-long 32 0; at = λ i lt. units-at 32 0 i lt ∙ ap (λ x. 2 ^ x) (omega arith) }

slab-row : IsRow SLAB_LEN slab
slab-row = record {
  long = length-map (units 32 0) (λ r. after SLAB_LEN r) ∙ units-long 32 0;
  at = λ i lt. get_or-map (λ r. after SLAB_LEN r) (units 32 0) i 0 0 (omega (arith, units-long 32 0)) ∙ ap (after SLAB_LEN) (units-row.at i lt);
}

brought-row : (m n : ℕ) (step row : List ℕ) → IsRow m step → IsRow n row → IsRow (n + m) (brought step row)
brought-row m n step row by is = record {
  long = length-map row (λ r. xor_of_bits r step) ∙ is.long;
  at = λ i lt.
      get_or-map (λ r. xor_of_bits r step) row i 0 0 (omega (arith, is.long)) ∙ ap (λ r. xor_of_bits r step) (is.at i lt)
      ∙ row_law m (after n (2 ^ i)) step by (after-lt n (2 ^ i) (pow-lt lt)) ∙ after-after n m (2 ^ i);
}

of_count : (m n : ℕ) (row : List ℕ) → m ≡ n → IsRow m row → IsRow n row
of_count m n row e is = subst (λ k. IsRow k row) e is

brought_on-row : (times m n : ℕ) (step row : List ℕ) → IsRow m step → IsRow n row → IsRow (n + times * m) (brought_on times step row)
unfolding brought_on
brought_on-row zero m n step row by is = of_count n (n + 0 * m) row (omega arith) is
brought_on-row (suc times) m n step row by is =
    of_count (n + m + times * m) (n + suc times * m) _ (grind arith) (brought_on-row times m (n + m) step (brought step row) by (brought-row m n step row by is))

rows-at : (count m n k : ℕ) (step row : List ℕ) → IsRow m step → IsRow n row → k < count → IsRow (n + k * m) (get_or (rows count step row) k [])
unfolding rows
rows-at zero m n k step row by is lt = absurd (omega arith)
rows-at (suc count) m n zero step row by is lt = of_count n (n + 0 * m) row (omega arith) is
rows-at (suc count) m n (suc k) step row by is lt =
    of_count (n + m + k * m) (n + suc k * m) _ (grind arith) (rows-at count m (n + m) k step (brought step row) by (brought-row m n step row by is) (omega arith))

-- the row of a digit of base 32, by its place
digit-row : (place digit : ℕ) → place < 2 → digit < 32 → IsRow (digit * 32 ^ place * SLAB_LEN) (get_or (get_or (rows 32 slab (units 32 0) ∷ rows 32 slabs (units 32 0) ∷ []) place []) digit [])
digit-row zero digit lp ld = of_count (0 + digit * SLAB_LEN) (digit * 32 ^ 0 * SLAB_LEN) _ (omega arith) (rows-at 32 SLAB_LEN 0 digit slab (units 32 0) slab-row units-row ld)
digit-row (suc zero) digit lp ld =
    of_count (0 + digit * (0 + 32 * SLAB_LEN)) (digit * 32 ^ 1 * SLAB_LEN) _ (omega arith)
    (rows-at 32 (0 + 32 * SLAB_LEN) 0 digit slabs (units 32 0) (brought_on-row 32 SLAB_LEN 0 slab (units 32 0) slab-row units-row) units-row ld)
digit-row (suc (suc place)) digit lp ld = absurd (omega arith)

pub digit_law : (r place digit : ℕ) → r < 2 ^ 32 → place < 2 → digit < 32 → xor_of_bits r (get_or (get_or LEAPS place []) digit []) ≡ after (digit * 32 ^ place * SLAB_LEN) r
digit_law r place digit lr lp ld =
    ap (λ (tables : List (List (List ℕ))). xor_of_bits r (get_or (get_or tables place []) digit [])) LEAPS-rows
    ∙ row_law (digit * 32 ^ place * SLAB_LEN) r _ (digit-row place digit lp ld) lr
