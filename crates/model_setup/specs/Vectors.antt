-- The vector of an entry (Vorbis I, section 3.2.1), in units of 2 ^ -16.
use Rattle.std.specs.Prelude.{ℕ, zero, suc, ◌+◌, ◌*◌, ◌/◌, ◌%◌, ◌^◌, ℤ, pos, ◌+ℤ◌, List, length, Option, Some, None, Bool, nat_le, map, option_map, slice_index, if◌then◌else◌}
use Rattle.std.specs.List.{range_with_len}
use Rattle.model_fixed.specs.Fixed.{limited, fix}
use Rattle.model_setup.specs.declared.book.LookupKind.{LookupKind}
use Rattle.model_setup.specs.declared.book.LookupKind.TheVariants.{Lattice, Tessellation}
use Rattle.model_setup.specs.Codebook.{Codebook, Lookup}
use Rattle.model_setup.specs.Codewords.{entry_at}

-- the greatest number up to r whose power is no more than the number of entries, or 0
unfoldable pub root_up_to : ℕ → ℕ → ℕ → ℕ
root_up_to zero entries dimensions = 0
root_up_to (suc r) entries dimensions =
    if nat_le (suc r ^ dimensions) entries then suc r else root_up_to r entries dimensions

-- the greatest r with r ^ dimensions at most the number of entries (Vorbis I, section 9.2.3)
unfoldable pub root_of : ℕ → ℕ → ℕ
root_of entries dimensions = root_up_to entries entries dimensions

-- how many multiplicands a lookup has
abbrev pub multiplicand_count : LookupKind → ℕ → ℕ → ℕ
multiplicand_count Lattice dimensions entries = root_of entries dimensions
multiplicand_count Tessellation dimensions entries = entries * dimensions

-- which multiplicand makes value i of an entry: digit i of the entry's number, the lowest first, in
-- the base of so many digits as there are multiplicands; or one of the entry's own
abbrev pub offset : LookupKind → ℕ → ℕ → ℕ → ℕ → ℕ
offset Lattice base dimensions entry i = entry / base ^ i % base
offset Tessellation base dimensions entry i = entry * dimensions + i

abbrev pub multiplicand_at : ℕ → Lookup → ℕ → ℕ → ℕ
multiplicand_at dimensions lookup entry i =
    slice_index lookup.multiplicands
    (offset lookup.kind (length lookup.multiplicands) dimensions entry i)

-- a value, made of a multiplicand and what it is added to
abbrev pub value_on : Lookup → ℤ → ℕ → ℤ
value_on lookup last multiplicand =
    limited ((fix multiplicand lookup.delta +ℤ fix 1 lookup.minimum) +ℤ last)

-- what the value after this one is added to: in a sequence this one
abbrev pub carried_on : Lookup → ℤ → ℤ
carried_on lookup value = if lookup.sequence then value else pos 0

-- value i of an entry's vector
unfoldable pub value_at : ℕ → Lookup → ℕ → ℕ → ℤ
value_at dimensions lookup entry zero =
    value_on lookup (pos 0) (multiplicand_at dimensions lookup entry 0)
value_at dimensions lookup entry (suc i) =
    value_on lookup (carried_on lookup (value_at dimensions lookup entry i))
    (multiplicand_at dimensions lookup entry (suc i))

-- the vector of an entry
unfoldable pub vector_of : ℕ → Lookup → ℕ → List ℤ
vector_of dimensions lookup entry =
    map (value_at dimensions lookup entry) (range_with_len 0 dimensions)

abbrev pub vector_by : ℕ → Option Lookup → Option (ℕ × List Bool) → Option (List ℤ × List Bool)
vector_by dimensions None read = None
vector_by dimensions (Some lookup) read =
    option_map (λ (r : ℕ × List Bool). (vector_of dimensions lookup r.0, r.1)) read

-- the vector of the entry that the bits begin with, and the bits after it; none at the end of the
-- packet
unfoldable pub vector_at : Codebook → List Bool → Option (List ℤ × List Bool)
vector_at book left = vector_by book.dimensions book.lookup (entry_at book.lengths left)
