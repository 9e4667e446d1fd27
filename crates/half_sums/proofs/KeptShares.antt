-- Sums of shares without those of bins that are zero.
use Rattle.std.proofs.Common.{◌≡◌, ◌≢◌, ℕ, suc, ◌+◌, ◌*◌, ◌<◌, ◌≤◌, ◌∙◌, sym, ap, subst, List, length, get_or, set, inl, inr, arith}
use Rattle.std.proofs.lemmas.Bool.{cases_lt, cases_eq}
use Rattle.std.proofs.lemmas.List.{get_or-set_same, get_or-set_other}
use Rattle.number_transform.proofs.Totals.{total_same}
use Rattle.half_sums.specs.Shares.{share_sum}

-- what is written behind shares leaves their sum
shares_before : (xs ss waves : List ℕ) (count m s a : ℕ) → share_sum (set xs count m) (set ss count s) waves count a ≡ share_sum xs ss waves count a
shares_before xs ss waves count m s a =
    total_same count (λ b. get_or (set xs count m) b 0 * get_or waves (get_or (set ss count s) b 0 + a) 0) (λ b. get_or xs b 0 * get_or waves (get_or ss b 0 + a) 0) (λ b below.
    let other : b ≢ count = omega arith in
    ap (λ x. x * get_or waves (get_or (set ss count s) b 0 + a) 0) (get_or-set_other xs count b m 0 other)
    ∙ ap (λ x. get_or xs b 0 * get_or waves (x + a) 0) (get_or-set_other ss count b s 0 other))

-- one share more
shares_with : (xs ss waves : List ℕ) (count m s a : ℕ) → count < length xs → count < length ss
    → share_sum (set xs count m) (set ss count s) waves (suc count) a ≡ share_sum xs ss waves count a + m * get_or waves (s + a) 0
shares_with xs ss waves count m s a room room_starts =
    let front : share_sum (set xs count m) (set ss count s) waves count a ≡ share_sum xs ss waves count a = shares_before xs ss waves count m s a in
    let last : get_or (set xs count m) count 0 * get_or waves (get_or (set ss count s) count 0 + a) 0 ≡ m * get_or waves (s + a) 0 =
    ap (λ x. x * get_or waves (get_or (set ss count s) count 0 + a) 0) (get_or-set_same xs count m 0 room)
    ∙ ap (λ x. m * get_or waves (x + a) 0) (get_or-set_same ss count s 0 room_starts) in
    omega arith

-- a bin that is zero is left out, and any other one kept
pub shares_kept : (xs ss ms os waves : List ℕ) (count next b m s a : ℕ) → count < length xs → count < length ss
    → m ≡ get_or ms b 0 → s ≡ get_or os b 0 → (m ≡ 0 → next ≡ count) → (0 < m → next ≡ count + 1)
    → share_sum xs ss waves count a ≡ share_sum ms os waves b a
    → share_sum (set xs count m) (set ss count s) waves next a ≡ share_sum ms os waves (b + 1) a
shares_kept xs ss ms os waves count next b m s a room room_starts em es silent sounding old =
    let one : b + 1 ≡ suc b = omega arith in
    let share : get_or ms b 0 * get_or waves (get_or os b 0 + a) 0 ≡ m * get_or waves (s + a) 0 =
    ap (λ x. x * get_or waves (get_or os b 0 + a) 0) (sym em) ∙ ap (λ x. m * get_or waves (x + a) 0) (sym es) in
    let more : share_sum ms os waves (suc b) a ≡ share_sum ms os waves b a + m * get_or waves (s + a) 0 = omega arith in
    let whole : share_sum ms os waves (b + 1) a ≡ share_sum ms os waves b a + m * get_or waves (s + a) 0 = ap (λ n. share_sum ms os waves n a) one ∙ more in
    elim (cases_eq m 0) [
      | inl zero ↦
          let none : m * get_or waves (s + a) 0 ≡ 0 = ap (λ x. x * get_or waves (s + a) 0) zero ∙ omega arith in
          let last : share_sum ms os waves b a ≡ share_sum ms os waves (b + 1) a = omega arith in
          ap (λ n. share_sum (set xs count m) (set ss count s) waves n a) (silent zero) ∙ (shares_before xs ss waves count m s a ∙ (old ∙ last))
      | inr other ↦
          let further : next ≡ suc count = sounding (omega arith) ∙ omega arith in
          ap (λ n. share_sum (set xs count m) (set ss count s) waves n a) further
          ∙ (shares_with xs ss waves count m s a room room_starts ∙ (ap (λ x. x + m * get_or waves (s + a) 0) old ∙ sym whole))
    ]

pub kept_small : (xs : List ℕ) (count next x most : ℕ) → count < length xs → next ≤ count + 1 → x ≤ most → ((k : ℕ) → k < count → get_or xs k 0 ≤ most)
    → (k : ℕ) → k < next → get_or (set xs count x) k 0 ≤ most
kept_small xs count next x most room further small old k below = elim (cases_lt k count) [
  | inl before ↦
      let other : k ≢ count = omega arith in
      subst (λ y. y ≤ most) (sym (get_or-set_other xs count k x 0 other)) (old k before)
  | inr here ↦
      let same : k ≡ count = omega arith in
      subst (λ y. y ≤ most) (sym (ap (λ i. get_or (set xs count x) i 0) same ∙ get_or-set_same xs count x 0 room)) small
]
