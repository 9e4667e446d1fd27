-- A book's words in order of their intervals read the same entries.
use Rattle.std.proofs.Common.{◌≡◌, ℕ, ◌+◌, ◌<◌, ◌≤◌, List, [], ◌∷◌, length, get_or, Option, Some, None, Bool, true, false, inl, inr, refl, ap, sym, ◌∙◌, subst, arith, zero, suc, ◌*◌, IfSome, IfNone}
use Rattle.std.proofs.lemmas.Bool.{cases_order, false_from_ne_true, false≢true}
use Rattle.std.proofs.lemmas.List.{get_or_default}
use Rattle.std.proofs.lemmas.List.Sorted.{Contains-permutation, All-permutation, IsPermutation-sym, length_permutation}
use Rattle.std.proofs.lemmas.Option.{none-some, some_pair_parts}
use Rattle.std.specs.List.{All, AllPairs}
use Rattle.std.specs.List.Sorted.{IsPermutation}
use Rattle.model_bits.specs.Bits.{bit_value, take_bits}
use Rattle.model_bits.proofs.BitList.{take_bits_some}
use Rattle.model_setup.specs.declared.book.Word.{Word}
use Rattle.model_setup.specs.Codewords.{begins, entry_begun, entry_by, entry_of, IsPlaced, AreApart}
use Rattle.model_setup.proofs.Digits.{not_both}
use Rattle.std.specs.Prelude.{is_some}
use Rattle.codebooks.specs.Books.{words_or_none}
use Rattle.codebooks.specs.Looks.{SameOrApart, IsBegun, NoneBegins}
use Rattle.codebooks.proofs.Finds.{find_none_of, find_at_first}

turned : (v w : Word) → AreApart v w → AreApart w v
turned v w (inl a) = inr a
turned v w (inr a) = inl a

-- two words of a book are the same or apart
same_or_apart : (words : List Word) → AllPairs AreApart words → SameOrApart words
same_or_apart words apart v w (i, l, e) (j, m, f) =
    let g : get_or words i w ≡ v = get_or_default words i w v l ∙ e in
    elim (cases_order i j) [
      | inl same ↦ inl (sym g ∙ ap (λ n. get_or words n w) same ∙ f)
      | inr (inl less) ↦ inr (subst (λ (x : Word). AreApart x w) g (subst (λ (x : Word). AreApart (get_or words i w) x) f (apart i j w less m)))
      | inr (inr more) ↦ inr (turned w v (subst (λ (x : Word). AreApart w x) g (subst (λ (x : Word). AreApart x (get_or words i w)) f (apart j i w more l))))
    ]

pub sorted_apart : (book words : List Word) → AllPairs AreApart book → IsPermutation book words → SameOrApart words
sorted_apart book words apart p v w a b =
    same_or_apart book apart v w (Contains-permutation words book v (IsPermutation-sym book words p) a) (Contains-permutation words book w (IsPermutation-sym book words p) b)

begun_some : (book : List Word) (left rest : List Bool) (entry : ℕ) → All IsPlaced book → AllPairs AreApart book → IsBegun book left entry rest → entry_begun book left ≡ Some (entry, rest)
unfolding entry_begun
begun_some book left rest entry placed apart b =
    let w = b.word in
    let i = b.among.0 in
    let l : i < length book = b.among.1 in
    let e : get_or book i w ≡ w = b.among.2 in
    let here : begins left (get_or book i w) ≡ true = rw e b.begun in
    let before : (k : ℕ) → k < i → begins left (get_or book k w) ≡ false = λ k h.
    false_from_ne_true (begins left (get_or book k w)) (λ u.
    not_both (get_or book k w) (get_or book i w) left (placed k w (below k i (length book) h l)) (placed i w l) (apart k i w h l) u here) in
    rw (find_at_first (begins left) book i w l here before, e, b.entry_is, b.rest_is) refl
  where
    below : (k i n : ℕ) → k < i → i < n → k < n
    below k i n a b = omega arith

begun_none : (book : List Word) (left : List Bool) → NoneBegins book left → entry_begun book left ≡ None
unfolding entry_begun
begun_none book left none = rw (find_none_of (begins left) book none) refl

several : (book : List Word) (left : List Bool) → 1 < length book → entry_by book left ≡ entry_begun book left
unfolding entry_by
several [] left h = absurd (omega arith)
several (v ∷ []) left h = absurd (omega arith)
several (v ∷ w ∷ book) left h = refl

-- what a walk over the words says of the book
pub walked_some : (book words : List Word) (left rest : List Bool) (o : Option ℕ) → All IsPlaced words → 1 < length words → IsPermutation book words → AllPairs AreApart book
    → IfSome o (λ e. IsBegun words left e rest) → IfSome o (λ e. entry_by book left ≡ Some (e, rest))
walked_some book words left rest None placed long p apart h = h
walked_some book words left rest (Some entry) placed long p apart h =
    let l = length_permutation book words p in
    let back = IsPermutation-sym book words p in
    several book left (omega arith) ∙ begun_some book left rest entry (All-permutation IsPlaced words book back placed) apart (record {
      word = h.word;
      among = Contains-permutation words book h.word back h.among;
      begun = h.begun;
      entry_is = h.entry_is;
      rest_is = h.rest_is;
    })

pub walked_none : (book words : List Word) (left : List Bool) (o : Option ℕ) → 1 < length words → IsPermutation book words → IfNone o (NoneBegins words left) → IfNone o (entry_by book left ≡ None)
walked_none book words left None long p h =
    let l = length_permutation book words p in
    several book left (omega arith) ∙ begun_none book left (All-permutation (λ w. begins left w ≡ false) words book (IsPermutation-sym book words p) h)
walked_none book words left (Some entry) long p h = h

-- a book of no words, and of one
unused : (book : List Word) (left : List Bool) → length book ≡ 0 → entry_by book left ≡ None
unfolding entry_by
unused [] left h = refl
unused (w ∷ book) left h = absurd (omega arith)

only : (book : List Word) (word : Word) → IsPermutation book (word ∷ []) → book ≡ word ∷ []
only [] word p = let l = length_permutation [] (word ∷ []) p in absurd (omega arith)
only (v ∷ w ∷ book) word p = let l = length_permutation (v ∷ w ∷ book) (word ∷ []) p in absurd (omega arith)
only (v ∷ []) word p =
    let h = Contains-permutation (v ∷ []) (word ∷ []) v p (0, omega arith, refl) in
    ap (λ (w : Word). w ∷ []) (sym (at_once h.0 h.1 h.2))
  where
    at_once : (k : ℕ) → k < 1 → get_or (word ∷ []) k v ≡ v → word ≡ v
    at_once zero l e = e
    at_once (suc k) l e = absurd (omega arith)

one_end : (book : List Word) (word : Word) (left : List Bool) → IsPermutation book (word ∷ []) → take_bits 1 left ≡ None → entry_by book left ≡ None
unfolding entry_by
one_end book word [] p h = rw (only book word p) refl
one_end book word (bit ∷ left) p h = absurd (none-some _ (sym h ∙ take_bits_some (bit ∷ left) 1 (omega arith)))

one_bit : (book : List Word) (word : Word) (left rest : List Bool) (n : ℕ) → IsPermutation book (word ∷ []) → take_bits 1 left ≡ Some (n, rest) → entry_by book left ≡ Some (word.entry, rest)
unfolding entry_by
one_bit book word [] rest n p h = absurd (none-some (n, rest) h)
one_bit book word (bit ∷ left) rest n p h =
    let parts = some_pair_parts (bit_value bit + 2 * 0) n left rest (sym (take_bits_some (bit ∷ left) 1 (omega arith)) ∙ h) in
    rw (only book word p, ← parts.1) refl

pub entry_of_right : (o : Option (List Word)) (left : List Bool) → is_some o ≡ true → entry_of o left ≡ entry_by (words_or_none o) left
entry_of_right None left h = absurd (false≢true h)
entry_of_right (Some words) left h = refl

pub read_none : (book words : List Word) (left : List Bool) → length words < 1 → IsPermutation book words → entry_by book left ≡ None
read_none book words left short p = let l = length_permutation book words p in unused book left (omega arith)

pub read_end : (book words : List Word) (left : List Bool) → 1 ≤ length words → length words < 2 → IsPermutation book words → take_bits 1 left ≡ None → entry_by book left ≡ None
read_end book [] left some short p h = absurd (omega arith)
read_end book (w ∷ []) left some short p h = one_end book w left p h
read_end book (w ∷ v ∷ words) left some short p h = absurd (omega arith)

pub read_bit : (book words : List Word) (left rest : List Bool) (n : ℕ) (d : Word) → 1 ≤ length words → length words < 2 → IsPermutation book words → take_bits 1 left ≡ Some (n, rest) → entry_by book left ≡ Some ((get_or words 0 d).entry, rest)
read_bit book [] left rest n d some short p h = absurd (omega arith)
read_bit book (w ∷ []) left rest n d some short p h = one_bit book w left rest n p h
read_bit book (w ∷ v ∷ words) left rest n d some short p h = absurd (omega arith)
