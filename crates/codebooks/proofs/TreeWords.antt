-- The words of a whole book are placed and apart, and fill all numbers.
use Rattle.std.proofs.Common.{◌≡◌, ℕ, suc, ◌+◌, ◌*◌, ◌^◌, ◌<◌, ◌≤◌, List, [], ◌∷◌, ◌++◌, length, get_or, Option, Some, None, option_map, Bool, true, false, ◌&&◌, cond, leb, ltb, ◌⊎◌, inl, inr, is_some, refl, ap, sym, ◌∙◌, subst, arith}
use Rattle.std.specs.Prelude.{option_and_then}
use Rattle.std.proofs.lemmas.Bool.{and_parts, and_from, cases_Bool, cases_lt, leb-true, ltb-true, le-leb, lt-ltb, eqb-true, false_from_ne_true, true_from_ne_false, both_ways}
use Rattle.std.proofs.lemmas.Option.{same_Some, none-some}
use Rattle.std.proofs.lemmas.List.Elements.{All-push}
use Rattle.std.proofs.lemmas.List.Folds.{list_all_at, list_any_at, list_any_none}
use Rattle.std.proofs.lemmas.List.FromFn.{get_or-range_with_len, length-range_with_len}
use Rattle.std.proofs.lemmas.List.Sums.{sum_by-cons}
use Rattle.std.proofs.lemmas.List.Quantifiers.{all_pairs_push}
use Rattle.std.specs.List.{All, AllPairs, find, list_all, list_any, range_with_len}
use Rattle.model_setup.specs.declared.book.Word.{Word}
use Rattle.model_setup.specs.Codewords.{size_of, is_apart, is_unclaimed, first_free, words_behind, filled, is_right, if_right, book_words, begins, look_high, entry_behind, entry_begun, entry_by, entry_at, IsPlaced, AreApart}
use Rattle.model_setup.proofs.Digits.{Within, look_below, begins_from, never_begins}
use Rattle.model_setup.proofs.Sizes.{size-all, multiple-lt}
use Rattle.codebooks.specs.Free.{claims, IsLengthIfUsed}
use Rattle.codebooks.specs.TreeLaws.{AreSeparate}
use Rattle.codebooks.proofs.Claims.{word, apart_either}
use Rattle.codebooks.proofs.Finds.{find_is, find_not, mapped_some}

-- what a place for a word is
found : (earlier : List Word) (len start : ℕ) → first_free earlier len ≡ Some start → (k : ℕ) × (k < 2 ^ len) × (start ≡ k * size_of len) × (list_all (is_apart start (size_of len)) earlier ≡ true)
unfolding first_free
found earlier len start h =
    let places = range_with_len 0 (2 ^ len) in
    let m = mapped_some (λ k. k * size_of len) (find (is_unclaimed earlier len) places) start (sym h) in
    let k = m.0 in
    let f = find_is (is_unclaimed earlier len) places k m.1 in
    let i = f.0 in
    let b = f.1 in
    let n = length-range_with_len 0 (2 ^ len) in
    let l : i < 2 ^ len = omega arith in
    let e : k ≡ 0 + i = sym f.2 ∙ get_or-range_with_len 0 (2 ^ len) i k l in
    (k, omega arith, m.2, subst (λ (s : ℕ). list_all (is_apart s (size_of len)) earlier ≡ true) (sym m.2) f.3)

found_placed : (earlier : List Word) (entry len start : ℕ) → 0 < len → len ≤ 32 → first_free earlier len ≡ Some start → IsPlaced (word entry len start)
found_placed earlier entry len start some small h =
    let f = found earlier len start h in
    let k = f.0 in
    let lt : k < 2 ^ len = f.1 in
    let fits : k * size_of len + size_of len ≤ 2 ^ len * size_of len = multiple-lt k (2 ^ len) (size_of len) lt in
    let all : 2 ^ len * size_of len ≡ 2 ^ 32 = size-all len small in
    let e : start ≡ k * size_of len = f.2 in
    record { some = some; len = small; at = (k, e); within = omega arith }

found_apart : (earlier : List Word) (entry len start : ℕ) → first_free earlier len ≡ Some start → (k : ℕ) (d : Word) → k < length earlier → AreApart (get_or earlier k d) (word entry len start)
found_apart earlier entry len start h k d l =
    let test = is_apart start (size_of len) in
    let all : list_all test earlier ≡ true = (found earlier len start h).3 in
    apart_either start (size_of len) (get_or earlier k d) (true_from_ne_false (test (get_or earlier k d)) (λ f. both_ways (list_all test earlier) (list_all_at test earlier k d l f) all))

option_cases : (o : Option ℕ) → (o ≡ None) ⊎ ((x : ℕ) × (o ≡ Some x))
option_cases None = inl refl
option_cases (Some x) = inr (x, refl)

abbrev Right : List Word → Type 0
Right words = All IsPlaced words × AllPairs AreApart words

words_behind_right : (lengths : List (Option ℕ)) (earlier words : List Word) (entry : ℕ) → All IsLengthIfUsed lengths → Right earlier → words_behind earlier entry lengths ≡ Some words → Right words
unfolding words_behind
words_behind_right [] earlier words entry small right h = subst Right (same_Some earlier words h) right
words_behind_right (None ∷ lengths) earlier words entry small right h = words_behind_right lengths earlier words (entry + 1) (λ k d l. small (suc k) d (omega arith)) right h
words_behind_right (Some len ∷ lengths) earlier words entry small right h =
    let next : ℕ → Option (List Word) = λ start. words_behind (earlier ++ word entry len start ∷ []) (entry + 1) lengths in
    elim (option_cases (first_free earlier len)) [
      | inl none ↦ absurd (none-some words (sym (ap (option_and_then next) none) ∙ h))
      | inr (start, some) ↦
          let fits = small 0 None (omega arith) in
          let placed = found_placed earlier entry len start fits.0 fits.1 some in
          let apart = found_apart earlier entry len start some in
          words_behind_right lengths (earlier ++ word entry len start ∷ []) words (entry + 1) (λ k d l. small (suc k) d (omega arith))
          (All-push IsPlaced earlier (word entry len start) right.0 placed, all_pairs_push AreApart earlier (word entry len start) right.1 apart)
          (sym (ap (option_and_then next) some) ∙ h)
    ]

right_some : (o : Option (List Word)) (words : List Word) → if_right o ≡ Some words → (o ≡ Some words) × (is_right words ≡ true)
right_some None words h = absurd (none-some words h)
right_some (Some others) words h = elim (cases_Bool (is_right others)) [
  | inl yes' ↦
      let e : others ≡ words = same_Some others words (sym (ap (λ b. cond b (Some others) None) yes') ∙ h) in
      (ap (λ ws. Some ws) e, sym (ap is_right e) ∙ yes')
  | inr no' ↦ absurd (none-some words (sym (ap (λ b. cond b (Some others) None) no') ∙ h))
]

pub words_right : (lengths : List (Option ℕ)) (words : List Word) → All IsLengthIfUsed lengths → book_words lengths ≡ Some words → All IsPlaced words × AllPairs AreApart words
unfolding book_words
words_right lengths words small h =
    words_behind_right lengths [] words 0 small (λ k d l. absurd (omega arith), λ i j d l m. absurd (omega arith)) (right_some (words_behind [] 0 lengths) words h).0

turned : (v w : Word) → AreApart v w → AreApart w v
turned v w (inl a) = inr a
turned v w (inr a) = inl a

pub words_separate : (lengths : List (Option ℕ)) (words : List Word) → All IsLengthIfUsed lengths → book_words lengths ≡ Some words → AllPairs AreSeparate words
words_separate lengths words small h i j d l m =
    let r = words_right lengths words small h in
    let v = get_or words i d in
    let w = get_or words j d in
    let p : IsPlaced v = r.0 i d (below i j (length words) l m) in
    let q : IsPlaced w = r.0 j d m in
    let apart : AreApart v w = r.1 i j d l m in
    record { first = never_begins v w p q apart; second = never_begins w v q p (turned v w apart); apart = apart }
  where
    below : (i j n : ℕ) → i < j → j < n → i < n
    below i j n a b = omega arith

-- how many numbers belong to those of the words that lie between two numbers
abbrev is_inside : ℕ → ℕ → Word → Bool
is_inside a b w = leb a w.start && leb (w.start + size_of w.len) b

share : ℕ → ℕ → Word → ℕ
share a b w = cond (is_inside a b w) (size_of w.len) 0

inside : ℕ → ℕ → List Word → ℕ
inside a b [] = 0
inside a b (w ∷ words) = share a b w + inside a b words

inside_is : (a b : ℕ) (w : Word) → a ≤ w.start → w.start + size_of w.len ≤ b → share a b w ≡ size_of w.len
unfolding share
inside_is a b w h k = ap (λ t. cond t (size_of w.len) 0) (and_from (leb a w.start) (leb (w.start + size_of w.len) b) (le-leb a w.start h) (le-leb (w.start + size_of w.len) b k))

inside_or : (a b : ℕ) (w : Word) → (share a b w ≡ 0) ⊎ ((a ≤ w.start) × (w.start + size_of w.len ≤ b))
unfolding share
inside_or a b w = elim (cases_Bool (is_inside a b w)) [
  | inl yes' ↦
      let p = and_parts (leb a w.start) (leb (w.start + size_of w.len) b) yes' in
      inr (leb-true a w.start p.0, leb-true (w.start + size_of w.len) b p.1)
  | inr no' ↦ inl (ap (λ t. cond t (size_of w.len) 0) no')
]

-- a word that isn't between s and e lies before or behind
share_split : (a s e b : ℕ) (v : Word) → (v.start + size_of v.len ≤ s) ⊎ (e ≤ v.start) → share a b v ≤ share a s v + share e b v
share_split a s e b v side = elim (inside_or a b v) [
  | inl none ↦ omega arith
  | inr (low, high) ↦
      let whole = inside_is a b v low high in
      elim side [
        | inl before ↦ let x = inside_is a s v low before in omega arith
        | inr behind ↦ let x = inside_is e b v behind high in omega arith
      ]
]

abbrev Beside : ℕ → ℕ → Word → Type 0
Beside s e v = (v.start + size_of v.len ≤ s) ⊎ (e ≤ v.start)

inside_split : (a s e b : ℕ) (words : List Word) → All (Beside s e) words → inside a b words ≤ inside a s words + inside e b words
unfolding inside
inside_split a s e b [] h = omega arith
inside_split a s e b (v ∷ words) h =
    let one = share_split a s e b v (h 0 v (omega arith)) in
    let more = inside_split a s e b words (λ k d l. h (suc k) d (omega arith)) in
    omega arith

inside_fits : (words : List Word) (a b : ℕ) → a ≤ b → AllPairs AreApart words → inside a b words + a ≤ b
unfolding inside
inside_fits [] a b le apart = omega arith
inside_fits (w ∷ words) a b le apart =
    let others : AllPairs AreApart words = λ i j d l m. apart (suc i) (suc j) d (omega arith) (omega arith) in
    elim (inside_or a b w) [
      | inl none ↦ let r = inside_fits words a b le others in omega arith
      | inr (low, high) ↦
          let e = w.start + size_of w.len in
          let beside : All (Beside w.start e) words = λ k d l. swapped w (get_or words k d) (apart 0 (suc k) d (omega arith) (omega arith)) in
          let split = inside_split a w.start e b words beside in
          let whole = inside_is a b w low high in
          let before = inside_fits words a w.start low others in
          let behind = inside_fits words e b high others in
          omega arith
    ]
  where
    swapped : (w v : Word) → AreApart w v → Beside w.start (w.start + size_of w.len) v
    swapped w v (inl a) = inr a
    swapped w v (inr a) = inl a

-- where no word has a number, all lie before or behind it
unclaimed_beside : (x : ℕ) (w : Word) → claims x w ≡ false → Beside x (suc x) w
unclaimed_beside x w h = elim (cases_lt x w.start) [
  | inl before ↦ inr (omega arith)
  | inr from ↦ elim (cases_lt x (w.start + size_of w.len)) [
    | inl within ↦ absurd (both_ways (claims x w) h (and_from (leb w.start x) (ltb x (w.start + size_of w.len)) (le-leb w.start x from) (lt-ltb x (w.start + size_of w.len) within)))
    | inr behind ↦ inl behind
  ]
]

all_beside : (x : ℕ) (words : List Word) → All IsPlaced words → All (λ w. claims x w ≡ false) words → filled words ≤ inside 0 x words + inside (suc x) (2 ^ 32) words
unfolding inside filled
all_beside x [] placed none = omega arith
all_beside x (w ∷ words) placed none =
    let p = placed 0 w (omega arith) in
    let sum : filled (w ∷ words) ≡ size_of w.len + filled words = sum_by-cons (λ (w : Word). size_of w.len) w words in
    let high : w.start + size_of w.len ≤ 2 ^ 32 = p.within in
    let r : filled words ≤ inside 0 x words + inside (suc x) (2 ^ 32) words = all_beside x words (λ k d l. placed (suc k) d (omega arith)) (λ k d l. none (suc k) d (omega arith)) in
    elim (unclaimed_beside x w (none 0 w (omega arith))) [
      | inl before ↦ let a = inside_is 0 x w (omega arith) before in omega arith
      | inr behind ↦ let a = inside_is (suc x) (2 ^ 32) w behind high in omega arith
    ]

fills : (words : List Word) (x : ℕ) → All IsPlaced words → AllPairs AreApart words → filled words ≡ 2 ^ 32 → x < 2 ^ 32 → list_any (claims x) words ≡ true
fills words x placed apart all small = true_from_ne_false (list_any (claims x) words) (λ f.
    let none : All (λ w. claims x w ≡ false) words = λ k d l. false_from_ne_true (claims x (get_or words k d)) (λ t. both_ways (list_any (claims x) words) f (list_any_at (claims x) words k d l t)) in
    let most = all_beside x words placed none in
    let before = inside_fits words 0 x (omega arith) apart in
    let behind = inside_fits words (suc x) (2 ^ 32) (omega arith) apart in
    omega arith)

filled_right : (words : List Word) → is_right words ≡ true → 1 < length words → filled words ≡ 2 ^ 32
filled_right [] h long = absurd (omega arith)
filled_right (w ∷ []) h long = absurd (omega arith)
filled_right (v ∷ w ∷ words) h long = eqb-true (filled (v ∷ w ∷ words)) (2 ^ 32) h

pub tree_full : (lengths : List (Option ℕ)) (words : List Word) → All IsLengthIfUsed lengths → book_words lengths ≡ Some words → 1 < length words → (x : ℕ) → x < 2 ^ 32 → list_any (claims x) words ≡ true
unfolding book_words
tree_full lengths words small h long x lt =
    let r = words_right lengths words small h in
    fills words x r.0 r.1 (filled_right words (right_some (words_behind [] 0 lengths) words h).1 long) lt

pub claims_within : (n : ℕ) (w : Word) → claims n w ≡ true → Within w.start (size_of w.len) n
claims_within n w h =
    let p = and_parts (leb w.start n) (ltb n (w.start + size_of w.len)) h in
    (leb-true w.start n p.0, ltb-true n (w.start + size_of w.len) p.1)

mapped_is : {X Y : Type 0} (f : X → Y) (o : Option X) → (o ≡ None → ⊥) → is_some (option_map f o) ≡ true
mapped_is f None h = absurd (h refl)
mapped_is f (Some x) h = refl

begun : (words : List Word) (left : List Bool) → All IsPlaced words → 32 ≤ length left → list_any (claims (look_high 32 left)) words ≡ true → is_some (entry_begun words left) ≡ true
unfolding entry_begun
begun words left placed enough claimed =
    let x = look_high 32 left in
    mapped_is (entry_behind left) (find (begins left) words) (λ none. both_ways (list_any (claims x) words)
    (list_any_none (claims x) words (λ k d l. false_from_ne_true (claims x (get_or words k d)) (λ t. not_begun (get_or words k d) left (placed k d l) enough (find_not (begins left) words none k d l) t)))
    claimed)
  where
    not_begun : (w : Word) (left : List Bool) → IsPlaced w → 32 ≤ length left → begins left w ≡ false → claims (look_high 32 left) w ≡ true → ⊥
    not_begun w left p enough f t =
        let few = p.len in
        both_ways (begins left w) f (begins_from w left p (omega arith) (claims_within (look_high 32 left) w t))

read : (words : List Word) (left : List Bool) → All IsPlaced words → 0 < length words → 32 ≤ length left → (1 < length words → list_any (claims (look_high 32 left)) words ≡ true) → is_some (entry_by words left) ≡ true
unfolding entry_by
read [] left placed some enough full = absurd (omega arith)
read (w ∷ []) [] placed some enough full = absurd (omega arith)
read (w ∷ []) (bit ∷ left) placed some enough full = refl
read (v ∷ w ∷ words) left placed some enough full = begun (v ∷ w ∷ words) left placed enough (full (omega arith))

pub entry_read : (lengths : List (Option ℕ)) (words : List Word) → All IsLengthIfUsed lengths → book_words lengths ≡ Some words → 0 < length words → (left : List Bool) → 32 ≤ length left → is_some (entry_at lengths left) ≡ true
unfolding entry_at
entry_read lengths words small h some left enough =
    let r = words_right lengths words small h in
    rw h (read words left r.0 some enough (λ long. tree_full lengths words small h long (look_high 32 left) (look_below 32 left)))
