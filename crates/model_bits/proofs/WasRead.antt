-- What is known of a value that was read, and that it is read again where it is written: for a number, and for each way
-- to put readings together.
use Rattle.std.proofs.Common.{◌≡◌, ℕ, zero, suc, ◌+◌, ◌^◌, ◌<◌, List, [], ◌∷◌, length, take, drop, flat_map, Result, Ok, Err, refl, sym, ap, subst, ◌∙◌, Bool, true, false, inl, inr}
use Rattle.std.specs.List.{AllByRecursion, range_with_len}
use Rattle.std.proofs.lemmas.Bool.{cases_lt}
use Rattle.std.proofs.lemmas.List.{length-take-le}
use Rattle.model_bits.specs.Bits.{number_of}
use Rattle.model_bits.specs.Reading.{Reading, ◌>>=◌, ◌>>◌, then_read, give, require, bits, or_end, times, each, relabel, renamed}
use Rattle.model_bits.specs.Writing.{WrittenField, ReadsBack, WasRead, Rewrites}
use Rattle.model_bits.proofs.BitList.{take_bits_none, take_bits_some}
use Rattle.model_bits.proofs.ReadsBack.{number_back, times_back, each_number_back, relabel_back}
use Rattle.model_bits.proofs.RoundTrip.{number_of-lt}

-- what an answer gives, or something else
pair_or : {E A : Type 0} → A × List Bool → Result (A × List Bool) E → A × List Bool
pair_or other (Ok x) = x
pair_or other (Err e) = other

pair_is : {E A : Type 0} (r : Result (A × List Bool) E) (x y : A × List Bool) → r ≡ Ok x → r ≡ Ok y → x ≡ y
unfolding pair_or
pair_is r x y is_x is_y = sym (ap (pair_or x) is_x) ∙ ap (pair_or x) is_y

-- a value that was given
pub given : {E A : Type 0} (x y : A) → WasRead {E = E} {A = A} (give x) y → x ≡ y
given {E = E} x y was =
    let r : Result (_ × List Bool) E = give x was.before in
    ap (λ p. p.0) (pair_is r (x, was.before) (y, was.left) refl was.read)

-- a test that was required holds
pub required : {E : Type 0} (b : Bool) (e : E) (n : ℕ) → WasRead (require b e) n → b ≡ true
required true e n was = refl
required false e n was = absurd (let h : Err e ≡ Ok (n, was.left) = was.read in cc)

-- a number has a place in its bits
pub number_read : {E : Type 0} (e : E) (width n : ℕ) → WasRead (bits e width) n → n < 2 ^ width
number_read e width n was = elim (cases_lt (length was.before) width) [
  | inl short ↦ absurd (let h : Err e ≡ Ok (n, was.left) = sym (ap (or_end e) (take_bits_none was.before width short)) ∙ was.read in cc)
  | inr within ↦
      let is : number_of (take width was.before) ≡ n =
      ap (λ p. p.0) (pair_is (bits e width was.before) (number_of (take width was.before), drop width was.before) (n, was.left) (ap (or_end e) (take_bits_some was.before width within)) was.read) in
      let long : length (take width was.before) ≡ width = length-take-le width was.before within in
      let small = number_of-lt (take width was.before) in
      rw (long, is) at small
]

-- two readings, each of which gave its value
pub record InTurn {E A B : Type 0} (m : Reading E A) (f : A → Reading E B) (y : B) : Type 0 where
  pub between : A
  pub first : WasRead m between
  pub second : WasRead (f between) y

module _ {E A B : Type 0} (m : Reading E A) (f : A → Reading E B) (y : B) (before left : List Bool) where
  parted : (r : Result (A × List Bool) E) → m before ≡ r → then_read r f ≡ Ok (y, left) → InTurn m f y
  parted (Ok x) is h = record {
    between = x.0;
    first = record { before = before; left = x.1; read = is };
    second = record { before = x.1; left = left; read = h };
  }
  parted (Err e) is h = absurd (let g : Err e ≡ Ok (y, left) = h in cc)

pub in_turn : {E A B : Type 0} (m : Reading E A) (f : A → Reading E B) (y : B) → WasRead (m >>= f) y → InTurn m f y
in_turn m f y was = parted m f y was.before was.left (m was.before) refl was.read

pub in_turn_next : {E A B : Type 0} (m : Reading E A) (n : Reading E B) (y : B) → WasRead (m >> n) y → InTurn m (λ x. n) y
in_turn_next m n y was = parted m (λ x. n) y was.before was.left (m was.before) refl was.read

-- the same reading by another cause
unrenamed : {E F A : Type 0} (f : F → E) (r : Result (A × List Bool) F) (x : A × List Bool) → renamed f r ≡ Ok x → r ≡ Ok x
unrenamed f (Ok y) x h = ap (λ p. Ok p) (pair_is (renamed f (Ok y)) y x refl h)
unrenamed f (Err e) x h = absurd (let g : Err (f e) ≡ Ok x = h in cc)

pub relabelled : {E F A : Type 0} (f : F → E) (m : Reading F A) (x : A) → WasRead (relabel f m) x → WasRead m x
relabelled f m x was = record { before = was.before; left = was.left; read = unrenamed f (m was.before) (x, was.left) was.read }

-- so many values in a row, each of which was read
module _ {E A : Type 0} (m : Reading E A) (P : A → Type 0) (each_is : (x : A) → WasRead m x → P x) where
  pub times_read : (n : ℕ) (xs : List A) → WasRead (times n m) xs → (length xs ≡ n) × AllByRecursion P xs
  times_read zero xs was = subst (λ ys. (length ys ≡ 0) × AllByRecursion P ys) (given [] xs was) (refl, tt)
  times_read (suc n) xs was =
      let one = in_turn m (λ x. times n m >>= λ ys. give (x ∷ ys)) xs was in
      let others = in_turn (times n m) (λ ys. give (one.between ∷ ys)) xs one.second in
      let rest = times_read n others.between others.first in
      subst (λ ys. (length ys ≡ suc n) × AllByRecursion P ys) (given (one.between ∷ others.between) xs others.second) (ap suc rest.0, (each_is one.between one.first, rest.1))

-- a value for each number from one on
module _ {E A : Type 0} (m : ℕ → Reading E A) (P : A → Type 0) (each_is : (number : ℕ) (x : A) → WasRead (m number) x → P x) where
  pub each_number_read : (first n : ℕ) (xs : List A) → WasRead (each m (range_with_len first n)) xs → (length xs ≡ n) × AllByRecursion P xs
  each_number_read first zero xs was = subst (λ ys. (length ys ≡ 0) × AllByRecursion P ys) (given [] xs was) (refl, tt)
  each_number_read first (suc n) xs was =
      let numbers = range_with_len (first + 1) n in
      let one = in_turn (m first) (λ x. each m numbers >>= λ ys. give (x ∷ ys)) xs was in
      let others = in_turn (each m numbers) (λ ys. give (one.between ∷ ys)) xs one.second in
      let rest = each_number_read (first + 1) n others.between others.first in
      subst (λ ys. (length ys ≡ suc n) × AllByRecursion P ys) (given (one.between ∷ others.between) xs others.second) (ap suc rest.0, (each_is first one.between one.first, rest.1))

-- ---- what was read is read again

pub number_rewritten : {E : Type 0} (e : E) (width : ℕ) → Rewrites (bits e width) (λ n. record { number = n; width = width } ∷ [])
number_rewritten e width n was = number_back e width n (number_read e width n was)

pub relabel_rewritten : {E F A : Type 0} (f : F → E) (m : Reading F A) (written : A → List WrittenField) → Rewrites m written → Rewrites (relabel f m) written
relabel_rewritten f m written back x was = relabel_back f m x (written x) (back x (relabelled f m x was))

module _ {E A : Type 0} (written : A → List WrittenField) where
  pub times_rewritten : (m : Reading E A) (n : ℕ) → Rewrites m written → Rewrites (times n m) (flat_map written)
  times_rewritten m n back xs was =
      let parts = times_read m (λ x. ReadsBack m x (written x)) back n xs was in
      subst (λ k. ReadsBack (times k m) xs (flat_map written xs)) parts.0 (times_back m written xs parts.1)

  -- where what was read at one number is read again at each
  pub each_number_rewritten : (m : ℕ → Reading E A) (first n : ℕ) → ((number : ℕ) (x : A) → WasRead (m number) x → (other : ℕ) → ReadsBack (m other) x (written x))
      → Rewrites (each m (range_with_len first n)) (flat_map written)
  each_number_rewritten m first n back xs was =
      let parts = each_number_read m (λ x. (other : ℕ) → ReadsBack (m other) x (written x)) back first n xs was in
      subst (λ k. ReadsBack (each m (range_with_len first k)) xs (flat_map written xs)) parts.0 (each_number_back m written first xs parts.1)
