-- The nearest of the points that count, below a line and above it.
use Rattle.std.proofs.Common.{◌≡◌, ℕ, zero, suc, ◌<◌, ◌≤◌, List, [], ◌∷◌, length, get_or, Some, None, Bool, true, false, ◌&&◌, ◌||◌, not, ltb, leb, cond, ◌⊎◌, inl, inr, refl, ap, sym, ◌∙◌, arith}
use Rattle.std.specs.List.{find, list_all, range_with_len}
use Rattle.std.proofs.lemmas.Bool.{false_from_ne_true, and_parts, and_from, or_left, or_right, or_cases, ltb-true, leb-true, lt-ltb, le-leb, not-true, both_ways}
use Rattle.std.proofs.lemmas.List.Sums.{AllPass-from_list_all, list_all-from_AllPass}
use Rattle.std.proofs.lemmas.List.FromFn.{length-range_with_len, get_or-range_with_len}
use Rattle.model_setup.specs.FloorCurve.{nearest_below, nearest_above}

-- no two points at one line
abbrev pub AreApart : List ℕ → Type 0
AreApart xs = (i j : ℕ) → i < length xs → j < length xs → get_or xs i 0 ≡ get_or xs j 0 → i ≡ j

-- ---- what `find` finds among the numbers of points

found : {X : Type 0} (p : X → Bool) (xs : List X) (i : ℕ) (d : X) → i < length xs → p (get_or xs i d) ≡ true → ((k : ℕ) → k < i → p (get_or xs k d) ≡ false) → find p xs ≡ Some (get_or xs i d)
found p [] i d l t f = absurd (omega arith)
found p (y ∷ ys) zero d l t f = ap (λ b. cond b (Some y) (find p ys)) t
found p (y ∷ ys) (suc i) d l t f =
    ap (λ b. cond b (Some y) (find p ys)) (f 0 (omega arith)) ∙ found p ys i d (omega arith) t (λ k h. f (suc k) (omega arith))

not_found : {X : Type 0} (p : X → Bool) (xs : List X) (d : X) → ((k : ℕ) → k < length xs → p (get_or xs k d) ≡ false) → find p xs ≡ None
not_found p [] d h = refl
not_found p (y ∷ ys) d h =
    ap (λ b. cond b (Some y) (find p ys)) (h 0 (omega arith)) ∙ not_found p ys d (λ k l. h (suc k) (omega arith))

-- the number that alone passes
only_found : (p : ℕ → Bool) (count n : ℕ) → n < count → p n ≡ true → ((k : ℕ) → k < count → p k ≡ true → k ≡ n) → find p (range_with_len 0 count) ≡ Some n
only_found p count n l t one =
    let len = length-range_with_len 0 count in
    let at : (k : ℕ) → k < count → get_or (range_with_len 0 count) k 0 ≡ k = λ k h. get_or-range_with_len 0 count k 0 h ∙ omega arith in
    let here : n < length (range_with_len 0 count) = omega arith in
    found p (range_with_len 0 count) n 0 here (ap p (at n l) ∙ t)
    (λ k h. ap p (at k (omega arith)) ∙ false_from_ne_true (p k) (λ e. let same = one k (omega arith) e in absurd (omega arith)))
    ∙ ap Some (at n l)

none_found : (p : ℕ → Bool) (count : ℕ) → ((k : ℕ) → k < count → p k ≡ false) → find p (range_with_len 0 count) ≡ None
none_found p count none =
    let len = length-range_with_len 0 count in
    not_found p (range_with_len 0 count) 0 (λ k h. let l : k < count = omega arith in ap p (get_or-range_with_len 0 count k 0 l ∙ omega arith) ∙ none k l)

-- ---- a test of each number

all_of : (p : ℕ → Bool) (count : ℕ) → ((k : ℕ) → k < count → p k ≡ true) → list_all p (range_with_len 0 count) ≡ true
all_of p count h =
    let len = length-range_with_len 0 count in
    list_all-from_AllPass p (range_with_len 0 count) (λ k d l. let m : k < count = omega arith in ap p (get_or-range_with_len 0 count k d m ∙ omega arith) ∙ h k m)

each_of : (p : ℕ → Bool) (count : ℕ) → list_all p (range_with_len 0 count) ≡ true → (k : ℕ) → k < count → p k ≡ true
each_of p count h k l =
    let len = length-range_with_len 0 count in
    ap p (sym (get_or-range_with_len 0 count k 0 l ∙ omega arith)) ∙ AllPass-from_list_all p (range_with_len 0 count) h k 0 (omega arith)

-- ---- the test of a point that is not passed over

abbrev clears : Bool → ℕ → ℕ → ℕ → ℕ → Bool
clears counts a b c d = not counts || leb a b || leb c d

clears_from : (counts : Bool) (a b c d : ℕ) → (counts ≡ true → (a ≤ b) ⊎ (c ≤ d)) → clears counts a b c d ≡ true
clears_from false a b c d h = or_left (true || leb a b) (leb c d) refl
clears_from true a b c d h = elim (h refl) [
  | inl e ↦ or_left (false || leb a b) (leb c d) (or_right false (leb a b) (le-leb a b e))
  | inr e ↦ or_right (false || leb a b) (leb c d) (le-leb c d e)
]

clears_says : (counts : Bool) (a b c d : ℕ) → clears counts a b c d ≡ true → counts ≡ true → (a ≤ b) ⊎ (c ≤ d)
clears_says counts a b c d h t = elim (or_cases (not counts || leb a b) (leb c d) h) [
  | inr e ↦ inr (leb-true c d e)
  | inl e ↦ elim (or_cases (not counts) (leb a b) e) [
    | inl f ↦ absurd (both_ways counts (not-true counts f) t)
    | inr f ↦ inl (leb-true a b f)
  ]
]

module _ (xs : List ℕ) (counts : ℕ → Bool) (x : ℕ) where
  abbrev below : ℕ → Bool
  below n = (counts n && ltb (get_or xs n 0) x) && list_all (λ m. not (counts m) || leb (get_or xs m 0) (get_or xs n 0) || leb x (get_or xs m 0)) (range_with_len 0 (length xs))

  abbrev above : ℕ → Bool
  above n = (counts n && ltb x (get_or xs n 0)) && list_all (λ m. not (counts m) || leb (get_or xs n 0) (get_or xs m 0) || leb (get_or xs m 0) x) (range_with_len 0 (length xs))

  -- the nearest point below a line is the one that no other that counts lies behind
  pub nearest_below_is : (n : ℕ) → AreApart xs → n < length xs → counts n ≡ true → get_or xs n 0 < x
      → ((m : ℕ) → m < length xs → counts m ≡ true → (get_or xs m 0 ≤ get_or xs n 0) ⊎ (x ≤ get_or xs m 0))
      → nearest_below xs counts x ≡ Some n
  unfolding nearest_below
  nearest_below_is n apart within here under clear =
      only_found below (length xs) n within
      (and_from (counts n && ltb (get_or xs n 0) x) _
      (and_from (counts n) (ltb (get_or xs n 0) x) here (lt-ltb (get_or xs n 0) x under))
      (all_of _ (length xs) (λ m l. clears_from (counts m) (get_or xs m 0) (get_or xs n 0) x (get_or xs m 0) (clear m l))))
      (λ k l t.
      let p = and_parts (counts k && ltb (get_or xs k 0) x) _ t in
      let q = and_parts (counts k) (ltb (get_or xs k 0) x) p.0 in
      let u = ltb-true (get_or xs k 0) x q.1 in
      apart k n l within
      (elim (clear k l q.0) [
        | inr e ↦ absurd (omega arith)
        | inl e ↦ elim (clears_says (counts n) (get_or xs n 0) (get_or xs k 0) x (get_or xs n 0) (each_of _ (length xs) p.1 n within) here) [
          | inl f ↦ omega arith
          | inr f ↦ absurd (omega arith)
        ]
      ]))

  -- the same above a line
  pub nearest_above_is : (n : ℕ) → AreApart xs → n < length xs → counts n ≡ true → x < get_or xs n 0
      → ((m : ℕ) → m < length xs → counts m ≡ true → (get_or xs n 0 ≤ get_or xs m 0) ⊎ (get_or xs m 0 ≤ x))
      → nearest_above xs counts x ≡ Some n
  unfolding nearest_above
  nearest_above_is n apart within here over clear =
      only_found above (length xs) n within
      (and_from (counts n && ltb x (get_or xs n 0)) _
      (and_from (counts n) (ltb x (get_or xs n 0)) here (lt-ltb x (get_or xs n 0) over))
      (all_of _ (length xs) (λ m l. clears_from (counts m) (get_or xs n 0) (get_or xs m 0) (get_or xs m 0) x (clear m l))))
      (λ k l t.
      let p = and_parts (counts k && ltb x (get_or xs k 0)) _ t in
      let q = and_parts (counts k) (ltb x (get_or xs k 0)) p.0 in
      let u = ltb-true x (get_or xs k 0) q.1 in
      apart k n l within
      (elim (clear k l q.0) [
        | inr e ↦ absurd (omega arith)
        | inl e ↦ elim (clears_says (counts n) (get_or xs k 0) (get_or xs n 0) (get_or xs n 0) x (each_of _ (length xs) p.1 n within) here) [
          | inl f ↦ omega arith
          | inr f ↦ absurd (omega arith)
        ]
      ]))

  -- no point that counts lies above a line
  pub nearest_above_none : ((m : ℕ) → m < length xs → counts m ≡ true → get_or xs m 0 ≤ x) → nearest_above xs counts x ≡ None
  unfolding nearest_above
  nearest_above_none none =
      none_found above (length xs) (λ k l.
      false_from_ne_true (above k) (λ t.
      let p = and_parts (counts k && ltb x (get_or xs k 0)) _ t in
      let q = and_parts (counts k) (ltb x (get_or xs k 0)) p.0 in
      let u = ltb-true x (get_or xs k 0) q.1 in
      let v = none k l q.0 in
      absurd (omega arith)))
