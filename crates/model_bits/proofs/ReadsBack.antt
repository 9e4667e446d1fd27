-- What is written is read again: for a number, and for each way to put readings together.
use Rattle.std.proofs.Common.{◌≡◌, ℕ, ◌+◌, ◌-◌, ◌%◌, replicate, ◌^◌, ◌<◌, List, [], ◌∷◌, ◌++◌, length, map, fold, flat_map, refl, sym, ap, ◌∙◌, append_assoc, Bool, true, false, if◌then◌else◌}
use Rattle.std.specs.List.{AllByRecursion, range_with_len}
use Rattle.std.proofs.lemmas.List.Elements.{All-head, All-tail}
use Rattle.model_bits.specs.Bits.{bits_of, bits_of_number}
use Rattle.model_bits.specs.Reading.{Reading, ◌>>=◌, ◌>>◌, then_read, give, require, bits, times, each, repeat, relabel, renamed, without_rest, packet_bits}
use Rattle.model_bits.specs.Writing.{WrittenField, HasPlace, bits_of_fields, ReadsBack, filled, fields_at, FieldsReadBack, BytesReadBack}
use Rattle.model_bits.proofs.Numbers.{bits_of-append}
use Rattle.model_bits.proofs.RoundTrip.{bits_written}

pub bits_of_fields-append : (xs ys : List WrittenField) → bits_of_fields (xs ++ ys) ≡ bits_of_fields xs ++ bits_of_fields ys
bits_of_fields-append [] ys = refl
bits_of_fields-append (x ∷ xs) ys = ap (λ bs. bits_of_number x.width x.number ++ bs) (bits_of_fields-append xs ys) ∙ sym (append_assoc (bits_of_number x.width x.number) (bits_of_fields xs) (bits_of_fields ys))

-- the bits of two parts, and what follows
pub in_parts : (xs ys : List WrittenField) (rest : List Bool) → bits_of_fields (xs ++ ys) ++ rest ≡ bits_of_fields xs ++ (bits_of_fields ys ++ rest)
in_parts xs ys rest = ap (λ bs. bs ++ rest) (bits_of_fields-append xs ys) ∙ append_assoc (bits_of_fields xs) (bits_of_fields ys) rest

-- a number
pub number_back : {E : Type 0} (e : E) (width number : ℕ) → number < 2 ^ width → ReadsBack (bits e width) number (record { number = number; width = width } ∷ [])
number_back e width number fits rest =
    ap (bits e width) (append_assoc (bits_of_number width number) [] rest) ∙ bits_written e width number rest fits

-- a value that no bit stands for
pub give_back : {E A : Type 0} (x : A) → ReadsBack {E = E} {A = A} (give x) x []
give_back x rest = refl

-- a test that holds
pub require_back : {E : Type 0} (b : Bool) (e : E) → b ≡ true → ReadsBack (require b e) 0 []
require_back b e holds rest = rw holds refl

module _ {E A B : Type 0} (m : Reading E A) (x : A) (y : B) (fields others : List WrittenField) where
  -- one reading, and another that depends on what the first gave
  pub then_back : (f : A → Reading E B) → ReadsBack m x fields → ReadsBack (f x) y others → ReadsBack (m >>= f) y (fields ++ others)
  then_back f first second rest =
      ap (λ bs. then_read (m bs) f) (in_parts fields others rest) ∙ ap (λ r. then_read r f) (first (bits_of_fields others ++ rest)) ∙ second rest

  -- one reading, and another
  pub next_back : (n : Reading E B) → ReadsBack m x fields → ReadsBack n y others → ReadsBack (m >> n) y (fields ++ others)
  next_back n first second = then_back (λ z. n) first second

-- a reading that gives what another gave, changed
pub map_back : {E A B : Type 0} (m : Reading E A) (x : A) (f : A → B) (fields : List WrittenField) → ReadsBack m x fields → ReadsBack (m >>= λ z. give (f z)) (f x) fields
map_back m x f fields first rest = ap (λ r. then_read r (λ z. give (f z))) (first rest)

-- a reading behind a test
pub tested_back : {E A : Type 0} (b : Bool) (e : E) (m : Reading E A) (x : A) (fields : List WrittenField) → b ≡ true → ReadsBack m x fields → ReadsBack (require b e >> m) x fields
tested_back b e m x fields holds back rest = rw holds (back rest)

-- a choice, either way
pub chosen_back : {E A : Type 0} (b : Bool) (m n : Reading E A) (x : A) (fields : List WrittenField) → b ≡ true → ReadsBack m x fields → ReadsBack (if b then m else n) x fields
chosen_back b m n x fields holds back rest = rw holds (back rest)

pub other_back : {E A : Type 0} (b : Bool) (m n : Reading E A) (x : A) (fields : List WrittenField) → b ≡ false → ReadsBack n x fields → ReadsBack (if b then m else n) x fields
other_back b m n x fields fails back rest = rw fails (back rest)

-- a reading with its cause as another one
pub relabel_back : {E F A : Type 0} (f : F → E) (m : Reading F A) (x : A) (fields : List WrittenField) → ReadsBack m x fields → ReadsBack (relabel f m) x fields
relabel_back f m x fields back rest = ap (renamed f) (back rest)

-- so many values in a row
module _ {E A : Type 0} (m : Reading E A) (written : A → List WrittenField) where
  pub times_back : (xs : List A) → AllByRecursion (λ x. ReadsBack m x (written x)) xs → ReadsBack (times (length xs) m) xs (flat_map written xs)
  times_back [] backs rest = refl
  times_back (x ∷ xs) backs rest =
      then_back m x (x ∷ xs) (written x) (flat_map written xs) (λ y. times (length xs) m >>= λ ys. give (y ∷ ys)) backs.0
      (map_back (times (length xs) m) xs (λ ys. x ∷ ys) (flat_map written xs) (times_back xs backs.1)) rest

-- a value for each item of a list
module _ {E X A : Type 0} (m : X → Reading E A) (value : X → A) (written : X → List WrittenField) where
  pub each_back : (items : List X) → AllByRecursion (λ item. ReadsBack (m item) (value item) (written item)) items → ReadsBack (each m items) (map value items) (flat_map written items)
  each_back [] backs rest = refl
  each_back (item ∷ items) backs rest =
      then_back (m item) (value item) (value item ∷ map value items) (written item) (flat_map written items) (λ y. each m items >>= λ ys. give (y ∷ ys)) backs.0
      (map_back (each m items) (map value items) (λ ys. value item ∷ ys) (flat_map written items) (each_back items backs.1)) rest

-- a value for each number from one on, where its reading is read back whatever the number is
module _ {E A : Type 0} (m : ℕ → Reading E A) (written : A → List WrittenField) where
  pub each_number_back : (first : ℕ) (xs : List A) → AllByRecursion (λ x. (number : ℕ) → ReadsBack (m number) x (written x)) xs → ReadsBack (each m (range_with_len first (length xs))) xs (flat_map written xs)
  each_number_back first [] backs rest = refl
  each_number_back first (x ∷ xs) backs rest =
      let others = range_with_len (first + 1) (length xs) in
      then_back (m first) x (x ∷ xs) (written x) (flat_map written xs) (λ y. each m others >>= λ ys. give (y ∷ ys)) (backs.0 first)
      (map_back (each m others) xs (λ ys. x ∷ ys) (flat_map written xs) (each_number_back (first + 1) xs backs.1)) rest

-- so many values in a row, with a state that goes from each to the next
module _ {E S A : Type 0} (m : S → Reading E (A × S)) (written : A → List WrittenField) (next : S → A → S) where
  abbrev pub ReadBackInTurn : S → List A → Type 0
  ReadBackInTurn s [] = Unit {0}
  ReadBackInTurn s (x ∷ xs) = ReadsBack (m s) (x, next s x) (written x) × ReadBackInTurn (next s x) xs

  pub repeat_back : (s : S) (xs : List A) → ReadBackInTurn s xs → ReadsBack (repeat (length xs) m s) (xs, fold next s xs) (flat_map written xs)
  repeat_back s [] backs rest = refl
  repeat_back s (x ∷ xs) backs rest =
      let t = next s x in
      then_back (m s) (x, t) (x ∷ xs, fold next t xs) (written x) (flat_map written xs) (λ y. repeat (length xs) m y.1 >>= λ ys. give (y.0 ∷ ys.0, ys.1)) backs.0
      (map_back (repeat (length xs) m t) (xs, fold next t xs) (λ ys. (x ∷ ys.0, ys.1)) (flat_map written xs) (repeat_back t xs backs.1)) rest

-- fields, each by its width
pub fields_back : FieldsReadBack
fields_back [] places rest = refl
fields_back (field ∷ fields) places rest =
    let width = field.width in
    let others = map (λ (other : WrittenField). other.width) fields in
    let numbers = map (λ (other : WrittenField). other.number) fields in
    then_back (packet_bits width) field.number (field.number ∷ numbers) (field ∷ []) fields (λ n. fields_at others >>= λ ns. give (n ∷ ns)) (number_back tt width field.number (All-head HasPlace field fields places))
    (map_back (fields_at others) numbers (λ ns. field.number ∷ ns) fields (fields_back fields (All-tail HasPlace field fields places))) rest

pub bytes_back : BytesReadBack
bytes_back fields bytes others places fill =
    let front = bits_of_fields fields in
    let last = filled front in
    let widths = map (λ (field : WrittenField). field.width) fields in
    let zeros = replicate ((8 - length front % 8) % 8) false in
    let split : bits_of (bytes ++ others) ≡ front ++ (zeros ++ bits_of others) = bits_of-append bytes others ∙ ap (λ bs. bs ++ bits_of others) fill ∙ append_assoc front zeros (bits_of others) in
    ap (λ bs. without_rest (fields_at widths bs)) split ∙ ap without_rest (fields_back fields places (zeros ++ bits_of others))
