-- Fields that are written one after the other (Vorbis I, section 2.1), and that what is written is
-- read.
use Rattle.std.specs.Prelude.{◌≡◌, ℕ, ◌-◌, ◌%◌, ◌^◌, ◌<◌, List, [], ◌∷◌, ◌++◌, length, map, replicate, Ok, Bool, false, All, ◌==◌, if◌then◌else◌, Option, Some, None}
use Rattle.model_bits.specs.Bits.{bit_value, bits_of, bits_of_number}
use Rattle.model_bits.specs.Reading.{Reading, each, packet_bits, without_rest}

-- a field that is to be written: a number, and how many bits it has
pub record WrittenField : Type 0 where
  pub number : ℕ
  pub width : ℕ

-- the number has a place in so many bits
abbrev pub HasPlace : WrittenField → Type 0
HasPlace field = field.number < 2 ^ field.width

-- a number in so many bits
abbrev pub in_bits : ℕ → ℕ → List WrittenField
in_bits width number = record { number = number; width = width } ∷ []

-- a flag
abbrev pub flag : Bool → List WrittenField
flag b = in_bits 1 (bit_value b)

-- a count, which stands there less one
abbrev pub count_in_bits : ℕ → ℕ → List WrittenField
count_in_bits width count = in_bits width (count - 1)

-- a count behind a flag, which isn't set where it is the other count
abbrev pub flagged_count : ℕ → ℕ → ℕ → List WrittenField
flagged_count width other count =
    if count == other then in_bits 1 0 else in_bits 1 1 ++ count_in_bits width count

-- a number of 8 bits, where there is one
abbrev pub optional_byte : Option ℕ → List WrittenField
optional_byte None = []
optional_byte (Some number) = in_bits 8 number

-- the bits of fields, of each the lowest first
abbrev pub bits_of_fields : List WrittenField → List Bool
bits_of_fields [] = []
bits_of_fields (field ∷ fields) = bits_of_number field.width field.number ++ bits_of_fields fields

-- These fields, written, are read as this value: whatever bits follow them, the reading gives the
-- value, and leaves the bits that follow.
abbrev pub ReadsBack : {E A : Type 0} → Reading E A → A → List WrittenField → Type 0
ReadsBack reading x fields =
    (rest : List Bool) → reading (bits_of_fields fields ++ rest) ≡ Ok (x, rest)

-- a value that a reading gives of some bits
pub record WasRead {E A : Type 0} (reading : Reading E A) (x : A) : Type 0 where
  pub before : List Bool
  pub left : List Bool
  pub read : reading before ≡ Ok (x, left)

-- What was read is read again where it is written as these fields.
abbrev pub Rewrites : {E A : Type 0} → Reading E A → (A → List WrittenField) → Type 0
Rewrites {E} {A} reading written = (x : A) → WasRead reading x → ReadsBack reading x (written x)

-- bits up to the end of a byte, the last of them filled with 0
abbrev pub filled : List Bool → List Bool
filled written = written ++ replicate ((8 - length written % 8) % 8) false

-- a number of each width, in order
abbrev pub fields_at : List ℕ → Reading (Unit {0}) (List ℕ)
fields_at widths = each packet_bits widths

-- Fields that were written are read again, each by its width.
abbrev pub FieldsReadBack : Type 0
FieldsReadBack =
    (fields : List WrittenField) → All HasPlace fields
    → ReadsBack (fields_at (map (λ field. field.width) fields)) (map (λ field. field.number) fields)
    fields

-- They are read again from bytes that they fill, whatever bytes follow.
abbrev pub BytesReadBack : Type 0
BytesReadBack =
    (fields : List WrittenField) (bytes others : List ℕ) → All HasPlace fields
    → bits_of bytes ≡ filled (bits_of_fields fields)
    → without_rest (fields_at (map (λ field. field.width) fields) (bits_of (bytes ++ others)))
    ≡ Ok (map (λ field. field.number) fields)
