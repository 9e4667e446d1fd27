-- Vectors in place of those of some channels.
use Rattle.std.proofs.Common.{◌≡◌, ◌<◌, ◌≤◌, ℕ, ℤ, List, [], ◌∷◌, ◌+◌, length, length-set, get_or, drop, slice_set, suc, zero, inl, inr, ◌⊎◌, Bool, true, false, cond, ap, subst, sym, ◌∙◌, arith}
use Rattle.std.proofs.lemmas.List.{at_drop_more, drop_all}
use Rattle.std.specs.Prelude.{◌==◌, slice_index}
use Rattle.std.proofs.lemmas.Bool.{cases_eq}
use Rattle.std.proofs.lemmas.List.{get_or-set_same, get_or-set_other}
use Rattle.std.specs.List.{All, filter, range_with_len}
use Rattle.model_fixed.specs.Fixed.{IsWithinLimit}
use Rattle.model_block.specs.PacketParts.{channels_of, replaced}

pub put_end : (all : List (List ℤ)) (channels : List ℕ) (i : ℕ) (lines : List (List ℤ)) (total : List (List ℤ)) → length channels ≤ i → replaced all (drop i channels) lines ≡ total → all ≡ total
unfolding replaced
put_end all channels i lines total le h = rw (drop_all i channels le) at h

-- a line of so many values within their limit
pub record IsLine (size : ℕ) (line : List ℤ) : Type 0 where
  pub count : length line ≡ size
  pub small : All IsWithinLimit line

-- the channels of the first submaps, so many, have their lines
abbrev pub AreRead : List ℕ → ℕ → ℕ → List (List ℤ) → Type 0
AreRead mux size submaps all =
    (channel : ℕ) → channel < length mux → get_or mux channel 0 < submaps → IsLine size (get_or all channel [])

pub put_on : (all : List (List ℤ)) (channels : List ℕ) (i d : ℕ) (lines rest : List (List ℤ)) (line : List ℤ) (total : List (List ℤ))
    → i < length channels → length lines + i ≡ length channels → line ≡ get_or lines 0 line → rest ≡ drop 1 lines
    → replaced all (drop i channels) lines ≡ total → replaced (slice_set all (get_or channels i d) line) (drop (i + 1) channels) rest ≡ total
unfolding replaced
put_on all channels i d [] rest line total lt count line-is rest-is h = absurd (omega (arith, lt, count))
put_on all channels i d (x ∷ xs) rest line total lt count line-is rest-is h =
    let more = at_drop_more (λ (cs : List ℕ). replaced all cs (x ∷ xs)) channels i d lt in
    rw (line-is, rest-is) (sym more ∙ h)

-- a number is one of these
abbrev pub IsIn : ℕ → List ℕ → Type 0
IsIn c [] = ⊥
IsIn c (x ∷ xs) = (c ≡ x) ⊎ IsIn c xs

set_line : (size c x : ℕ) (all : List (List ℤ)) (l : List ℤ) (xs : List ℕ) → c < length all → IsLine size l → (c ≡ x) ⊎ (c ≡ x → ⊥)
    → IsLine size (get_or all c []) ⊎ ((c ≡ x) ⊎ IsIn c xs) → IsLine size (get_or (slice_set all x l) c []) ⊎ IsIn c xs
set_line size c x all l xs lt line (inl same) had = inl (subst (λ (y : ℕ). IsLine size (get_or (slice_set all y l) c [])) same (subst (IsLine size) (sym (get_or-set_same all c l [] lt)) line))
set_line size c x all l xs lt line (inr other) (inl there) = inl (subst (IsLine size) (sym (get_or-set_other all x c l [] other)) there)
set_line size c x all l xs lt line (inr other) (inr (inl same)) = absurd (other same)
set_line size c x all l xs lt line (inr other) (inr (inr rest)) = inr rest

-- a channel that has its line already, or is one of those that get one now
pub put_lines : (size c : ℕ) (channels : List ℕ) (lines all : List (List ℤ)) → c < length all → length lines ≡ length channels → All (λ line. length line ≡ size) lines → All (All IsWithinLimit) lines
    → IsLine size (get_or all c []) ⊎ IsIn c channels → IsLine size (get_or (replaced all channels lines) c [])
unfolding replaced
put_lines size c [] lines all lt count sizes small (inl there) = there
put_lines size c [] lines all lt count sizes small (inr absent) = absurd absent
put_lines size c (x ∷ xs) [] all lt count sizes small had = absurd (omega (arith, count))
put_lines size c (x ∷ xs) (l ∷ ls) all lt count sizes small had =
    let line : IsLine size l = record { count = sizes 0 [] (omega arith); small = small 0 [] (omega arith) } in
    let now : IsLine size (get_or (slice_set all x l) c []) ⊎ IsIn c xs = set_line size c x all l xs lt line (cases_eq c x) had in
    put_lines size c xs ls (slice_set all x l) (omega (arith, lt, length-set all x l)) (omega (arith, count)) (λ k d h. sizes (suc k) d (omega (arith, h))) (λ k d h. small (suc k) d (omega (arith, h))) now

in_step : (b : Bool) (c a : ℕ) (rest : List ℕ) → (c ≡ a → b ≡ true) → (c ≡ a) ⊎ (c ≡ a → ⊥) → ((c ≡ a → ⊥) → IsIn c rest) → IsIn c (cond b (a ∷ rest) rest)
in_step true c a rest passes (inl same) f = inl same
in_step true c a rest passes (inr other) f = inr (f other)
in_step false c a rest passes (inl same) f = absurd (let e : false ≡ true = passes same in cc)
in_step false c a rest passes (inr other) f = f other

in_filter : (p : ℕ → Bool) (c a n : ℕ) → p c ≡ true → a ≤ c → c < a + n → IsIn c (filter p (range_with_len a n))
in_filter p c a zero passes le lt = absurd (omega (arith, le, lt))
in_filter p c a (suc n) passes le lt =
    in_step (p a) c a (filter p (range_with_len (a + 1) n)) (λ same. ap p (sym same) ∙ passes) (cases_eq c a) (λ other. in_filter p c (a + 1) n passes (omega (arith, le, other)) (omega (arith, lt)))

had_line : (mux : List ℕ) (size k c : ℕ) (all : List (List ℤ)) → c < length mux → get_or mux c 0 < k + 1 → (get_or mux c 0 ≡ k) ⊎ (get_or mux c 0 ≡ k → ⊥) → AreRead mux size k all
    → IsLine size (get_or all c []) ⊎ IsIn c (channels_of mux k)
had_line mux size k c all lt below (inl same) read =
    let passes : (slice_index mux c == k) ≡ true = grind (arith, same) in
    inr (in_filter (λ channel. slice_index mux channel == k) c 0 (length mux) passes (omega arith) (omega (arith, lt)))
had_line mux size k c all lt below (inr other) read = inl (read c lt (omega (arith, below, other)))

-- the lines of a submap, put in place of those of its channels
pub lines_on : (mux : List ℕ) (size k : ℕ) (all lines now : List (List ℤ)) (channels : List ℕ) → length all ≡ length mux → channels ≡ channels_of mux k → length lines ≡ length channels
    → All (λ line. length line ≡ size) lines → All (All IsWithinLimit) lines → now ≡ replaced all channels lines → AreRead mux size k all → AreRead mux size (k + 1) now
lines_on mux size k all lines now channels room c-is count sizes small put read = λ c lt below.
    subst (λ (xs : List (List ℤ)). IsLine size (get_or xs c [])) (sym put)
    (put_lines size c channels lines all (omega (arith, lt, room)) count sizes small (subst (λ (cs : List ℕ). IsLine size (get_or all c []) ⊎ IsIn c cs) (sym c-is) (had_line mux size k c all lt below (cases_eq (get_or mux c 0) k) read)))
