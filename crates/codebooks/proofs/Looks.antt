-- The word that bits begin with, by the number of the next 32.
use Rattle.std.proofs.Common.{◌≡◌, ℕ, zero, suc, ◌+◌, ◌-◌, ◌*◌, ◌/◌, ◌%◌, ◌^◌, ◌<◌, ◌≤◌, List, [], ◌∷◌, length, length-take, take, drop, get_or, ◌⊎◌, Some, None, Bool, true, false, leb, ltb, inl, inr, refl, ap, sym, ◌∙◌, subst, arith}
use Rattle.std.proofs.lemmas.Bool.{and_parts, and_from, cases_lt, leb-true, ltb-true, le-leb, lt-ltb, false_from_ne_true, both_ways}
use Rattle.std.proofs.lemmas.Bool.Decides.{nat_tests}
use Rattle.std.proofs.lemmas.List.{get_or_default, take_all}
use Rattle.std.proofs.lemmas.List.Elements.{All-contains}
use Rattle.std.proofs.lemmas.Option.{none-some, some_pair_parts}
use Rattle.std.proofs.lemmas.Nat.{pow_pos, pow-add}
use Rattle.std.proofs.Math.Nat.{lt_of_mul-lt-mul_right, pow-succ'}
use Rattle.std.specs.List.{All, Contains}
use Rattle.std.specs.List.Sorted.{IsPartitionPoint}
use Rattle.std.specs.Int.{reverse_bits_onto}
use Rattle.model_bits.specs.Bits.{bit_value, number_of, take_bits}
use Rattle.model_bits.proofs.BitList.{take_bits_some, take_bits_none}
use Rattle.model_setup.specs.declared.book.Word.{Word}
use Rattle.model_setup.specs.Codewords.{size_of, begins, look_high, IsPlaced, AreApart}
use Rattle.model_setup.proofs.Sizes.{finer, size-split, size-pos, multiple-lt}
use Rattle.model_setup.proofs.Digits.{Within, bit_below, look_below, begins_to, begins_from}
use Rattle.codebooks.specs.declared.word_table.Place.{Place}
use Rattle.codebooks.specs.Free.{claims}
use Rattle.codebooks.specs.Looks.{IsRising, SameOrApart, Finds, IsBegun, NoneBegins}
use Rattle.codebooks.specs.WordTables.{IsShortWord, IsPlaceOf}

pub look-nil : (count : ℕ) → look_high count [] ≡ 0
unfolding look_high
look-nil zero = refl
look-nil (suc count) = refl

-- the number of the first bits, with zeros behind: a multiple, and the number of all of them isn't far behind
look_front : (j w count : ℕ) (left : List Bool) → j + w ≡ count → ((k : ℕ) × (look_high count (take j left) ≡ k * 2 ^ w)) × Within (look_high count (take j left)) (2 ^ w) (look_high count left)
unfolding look_high
look_front zero w count left e =
    let f : count ≡ w = omega arith in
    let l : look_high count left < 2 ^ count = look_below count left in
    rw (look-nil count) ((0, omega arith), (omega arith, rw (← f) (omega arith)))
look_front (suc j) w zero left e = absurd (omega arith)
look_front (suc j) w (suc count) [] e = let p = pow_pos w in ((0, omega arith), (omega arith, omega arith))
look_front (suc j) w (suc count) (b ∷ left) e =
    let f : j + w ≡ count = omega arith in
    let r = look_front j w count left f in
    let m : look_high count (take j left) ≡ r.0.0 * 2 ^ w = r.0.1 in
    let p : bit_value b * 2 ^ count ≡ bit_value b * (2 ^ j * 2 ^ w) = ap (λ n. bit_value b * n) (ap (λ n. 2 ^ n) (sym f) ∙ pow-add 2 j w) in
    let a = r.1.0 in
    let z = r.1.1 in
    ((bit_value b * 2 ^ j + r.0.0, omega arith), (omega arith, omega arith))

pub claims_within : (n : ℕ) (w : Word) → claims n w ≡ true → Within w.start (size_of w.len) n
claims_within n w h =
    let p = and_parts (leb w.start n) (ltb n (w.start + size_of w.len)) h in
    (leb-true w.start n p.0, ltb-true n (w.start + size_of w.len) p.1)

pub within_claims : (n : ℕ) (w : Word) → Within w.start (size_of w.len) n → claims n w ≡ true
within_claims n w (a, b) = and_from (leb w.start n) (ltb n (w.start + size_of w.len)) (le-leb w.start n a) (lt-ltb n (w.start + size_of w.len) b)

-- a number is of one word at most
one_claims : (v w : Word) (n : ℕ) → AreApart v w → claims n v ≡ true → claims n w ≡ true → ⊥
one_claims v w n (inl a) h k = let x = claims_within n v h in let y = claims_within n w k in omega arith
one_claims v w n (inr a) h k = let x = claims_within n v h in let y = claims_within n w k in omega arith

begun_claims : (w : Word) (left : List Bool) → IsPlaced w → begins left w ≡ true → claims (look_high 32 left) w ≡ true
begun_claims w left placed t = within_claims (look_high 32 left) w (begins_to w left placed t).1

-- no word has the number: no word begins the bits
pub unclaimed_none : (words : List Word) (left : List Bool) → All IsPlaced words → Finds words (look_high 32 left) None → NoneBegins words left
unclaimed_none words left placed none k d l =
    let w = get_or words k d in
    false_from_ne_true (begins left w) (λ t. both_ways (claims (look_high 32 left) w) (none k d l) (begun_claims w left (placed k d l) t))

-- the word that has it is what the bits begin with, if they are enough
pub claimed_some : (words : List Word) (left rest : List Bool) (w : Word) (n : ℕ) → All IsPlaced words → Contains words w → claims (look_high 32 left) w ≡ true → take_bits w.len left ≡ Some (n, rest)
    → IsBegun words left w.entry rest
claimed_some words left rest w n placed among claimed h =
    let at : IsPlaced w = All-contains IsPlaced words w placed among in
    elim (cases_lt (length left) w.len) [
      | inl short ↦ absurd (none-some (n, rest) (sym (take_bits_none left w.len short) ∙ h))
      | inr enough ↦
          let parts = some_pair_parts (number_of (take w.len left)) n (drop w.len left) rest (sym (take_bits_some left w.len enough) ∙ h) in
          record { word = w; among = among; begun = begins_from w left at enough (claims_within (look_high 32 left) w claimed); entry_is = refl; rest_is = sym parts.1 }
    ]

-- and if they are not enough, they begin with none
pub claimed_short : (words : List Word) (left : List Bool) (w : Word) → All IsPlaced words → SameOrApart words → Contains words w → claims (look_high 32 left) w ≡ true → take_bits w.len left ≡ None
    → NoneBegins words left
claimed_short words left w placed apart among claimed h k d l =
    let v = get_or words k d in
    elim (cases_lt (length left) w.len) [
      | inr enough ↦ absurd (none-some (number_of (take w.len left), drop w.len left) (sym h ∙ take_bits_some left w.len enough))
      | inl short ↦ false_from_ne_true (begins left v) (λ t.
          let c = begun_claims v left (placed k d l) t in
          let n = (begins_to v left (placed k d l) t).0 in
          elim (apart v w (k, l, sym (get_or_default words k d v l)) among) [
            | inl same ↦ let f : v.len ≡ w.len = ap (λ (x : Word). x.len) same in absurd (omega arith)
            | inr other ↦ one_claims v w (look_high 32 left) other c claimed
          ])
    ]

-- a bisect over the words in order of their intervals: no word has the number, if the last that begins up to it hasn't
abbrev pub begins_by : ℕ → Word → Bool
begins_by n w = leb w.start n

none_at_or_after : (w : Word) (n : ℕ) → begins_by n w ≡ false → claims n w ≡ false
none_at_or_after w n h = grind (arith, nat_tests)

earlier_none : (v w : Word) (n : ℕ) → (v ≡ w) ⊎ AreApart v w → v.start ≤ w.start → w.start ≤ n → claims n w ≡ false → claims n v ≡ false
earlier_none v w n (inl same) le up h = ap (λ x. claims n x) same ∙ h
earlier_none v w n (inr (inl before)) le up h = false_from_ne_true (claims n v) (λ t. let c = claims_within n v t in omega arith)
earlier_none v w n (inr (inr behind)) le up h = let p = size-pos w.len in absurd (omega arith)

pub bisect_missing : (xs : List Word) (n place : ℕ) (d : Word) → IsRising xs → SameOrApart xs
    → IsPartitionPoint (λ w. begins_by n w ≡ true) (λ w. begins_by n w ≡ false) xs place → 0 < place → place ≤ length xs → claims n (get_or xs (place - 1) d) ≡ false → All (λ w. claims n w ≡ false) xs
bisect_missing xs n place d up apart (low, high) some within missing k e l =
    elim (cases_lt k place) [
      | inr behind ↦ none_at_or_after (get_or xs k e) n (high k e behind l)
      | inl before ↦
          let w = get_or xs (place - 1) d in
          let v = get_or xs k e in
          let m : place - 1 < length xs = omega arith in
          let le : v.start ≤ (get_or xs (place - 1) e).start = up k (place - 1) e (omega arith) m in
          let same : get_or xs (place - 1) e ≡ w = get_or_default xs (place - 1) e d m in
          let le' : v.start ≤ w.start = subst (λ (x : Word). v.start ≤ x.start) same le in
          let begun : w.start ≤ n = leb-true w.start n (low (place - 1) d (omega arith) (omega arith)) in
          earlier_none v w n (apart v w (k, l, sym (get_or_default xs k e v l)) (place - 1, m, sym (get_or_default xs (place - 1) d w m))) le' begun missing
    ]

pub bisect_before : (xs : List Word) (n : ℕ) → IsPartitionPoint (λ w. begins_by n w ≡ true) (λ w. begins_by n w ≡ false) xs 0 → All (λ w. claims n w ≡ false) xs
bisect_before xs n (low, high) k e l = none_at_or_after (get_or xs k e) n (high k e (omega arith) l)

abbrev no_bits : List Bool
no_bits = []

-- the number of the next bits, the highest first, is that of them the lowest first, turned round
pub turned_round : (count a : ℕ) (left : List Bool) → reverse_bits_onto count (number_of (take count left)) a ≡ a * 2 ^ count + look_high count left
unfolding look_high reverse_bits_onto
turned_round zero a left = omega arith
turned_round (suc count) a [] =
    let t : take count [] ≡ no_bits = take_all count [] (omega arith) in
    let r : reverse_bits_onto count (number_of (take count [])) (a * 2 + 0) ≡ (a * 2 + 0) * 2 ^ count + look_high count [] = turned_round count (a * 2 + 0) [] in
    let q : reverse_bits_onto count 0 (a * 2 + 0) ≡ (a * 2 + 0) * 2 ^ count + 0 = sym (ap (λ xs. reverse_bits_onto count (number_of xs) (a * 2 + 0)) t) ∙ r ∙ ap (λ n. (a * 2 + 0) * 2 ^ count + n) (look-nil count) in
    q ∙ omega (arith, ap (λ p. a * p) (pow-succ' 2 count))
turned_round (suc count) a (b ∷ left) =
    let m = number_of (take count left) in
    let v = bit_below b in
    let d : (bit_value b + 2 * m) / 2 ≡ m = omega arith in
    let e : (bit_value b + 2 * m) % 2 ≡ bit_value b = omega arith in
    let r : reverse_bits_onto count m (a * 2 + bit_value b) ≡ (a * 2 + bit_value b) * 2 ^ count + look_high count left = turned_round count (a * 2 + bit_value b) left in
    rw (d, e) (r ∙ omega (arith, ap (λ p. a * p) (pow-succ' 2 count)))

-- the number that 32 bits make, the first of them the highest
pub high_number : (left : List Bool) (look number : ℕ) → look ≡ number_of (take 32 left) → number ≡ reverse_bits_onto 32 look 0 → number ≡ look_high 32 left
high_number left look number e f =
    let t : reverse_bits_onto 32 (number_of (take 32 left)) 0 ≡ 0 * 2 ^ 32 + look_high 32 left = turned_round 32 0 left in
    f ∙ ap (λ n. reverse_bits_onto 32 n 0) e ∙ t ∙ omega arith

-- a word of at most so many bits has each number that begins with the same bits
near_claims : (w : Word) (bits first n : ℕ) → IsPlaced w → w.len ≤ bits → bits ≤ 32 → (k : ℕ) × (first ≡ k * size_of bits) → Within first (size_of bits) n → claims first w ≡ true → claims n w ≡ true
near_claims w bits first n p short small (k, is_first) (low, high) claimed =
    let a = p.at.0 * 2 ^ (bits - w.len) in
    let b = a + 2 ^ (bits - w.len) in
    let e : w.start ≡ p.at.0 * size_of w.len = p.at.1 in
    let f : p.at.0 * size_of w.len ≡ a * size_of bits = finer w.len bits p.at.0 short small in
    let g : size_of w.len ≡ 2 ^ (bits - w.len) * size_of bits = size-split w.len bits short small in
    let z : w.start + size_of w.len ≡ b * size_of bits = omega arith in
    let c = claims_within first w claimed in
    let c0 = c.0 in
    let c1 : k * size_of bits < b * size_of bits = rw (← is_first, ← z) c.1 in
    let q : k < b = lt_of_mul-lt-mul_right (size_of bits) c1 in
    let r : k * size_of bits + size_of bits ≤ b * size_of bits = multiple-lt k b (size_of bits) q in
    within_claims n w (omega arith, omega arith)

-- the number that the first bits make, with zeros behind
front_number : (bits : ℕ) (left : List Bool) → bits ≤ 32 → ((k : ℕ) × (reverse_bits_onto 32 (number_of (take bits left)) 0 ≡ k * size_of bits)) × Within (reverse_bits_onto 32 (number_of (take bits left)) 0) (size_of bits) (look_high 32 left)
unfolding size_of
front_number bits left small =
    let some = take bits left in
    let all : take 32 some ≡ some = take_all 32 some (simp length-take (omega arith)) in
    let e : reverse_bits_onto 32 (number_of some) 0 ≡ look_high 32 some = high_number some (number_of some) (reverse_bits_onto 32 (number_of some) 0) (ap number_of (sym all)) refl in
    rw e (look_front bits (32 - bits) 32 left (omega arith))

-- what stands at the place that the next bits name
pub near_word : (words : List Word) (bits look : ℕ) (left : List Bool) (place : Place) → All IsPlaced words → bits ≤ 32 → look ≡ number_of (take bits left) → IsPlaceOf words bits (reverse_bits_onto 32 look 0) place → 0 < place.len
    → IsShortWord words bits (look_high 32 left) place
near_word words bits look left place placed small is_look place_is some =
    let s = place_is some in
    let n = front_number bits left small in
    let c : claims (reverse_bits_onto 32 (number_of (take bits left)) 0) s.word ≡ true = subst (λ (m : ℕ). claims (reverse_bits_onto 32 m 0) s.word ≡ true) is_look s.claimed in
    record {
      word = s.word;
      among = s.among;
      claimed = near_claims s.word bits (reverse_bits_onto 32 (number_of (take bits left)) 0) (look_high 32 left) (All-contains IsPlaced words s.word placed s.among) s.short small n.0 n.1 c;
      short = s.short;
      entry_is = s.entry_is;
      len_is = s.len_is;
    }

pub near_some : (words : List Word) (bits n : ℕ) (left rest : List Bool) (place : Place) → All IsPlaced words → IsShortWord words bits (look_high 32 left) place → take_bits place.len left ≡ Some (n, rest) → IsBegun words left place.entry rest
near_some words bits n left rest place placed s h =
    rw s.entry_is (claimed_some words left rest s.word n placed s.among s.claimed (subst (λ (m : ℕ). take_bits m left ≡ Some (n, rest)) s.len_is h))

pub near_short : (words : List Word) (bits : ℕ) (left : List Bool) (place : Place) → All IsPlaced words → SameOrApart words → IsShortWord words bits (look_high 32 left) place → take_bits place.len left ≡ None → NoneBegins words left
near_short words bits left place placed apart s h =
    claimed_short words left s.word placed apart s.among s.claimed (subst (λ (m : ℕ). take_bits m left ≡ None) s.len_is h)
