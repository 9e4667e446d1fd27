-- A codebook as its bits stand in a setup packet (Vorbis I, section 3.2.1), with the first cause of
-- a refusal in reading order.
use Rattle.std.specs.Prelude.{ℕ, zero, suc, ◌+◌, ◌-◌, List, [], ◌++◌, length, Option, Some, None, is_some, nat_le, nat_lt, ◌==◌, if◌then◌else◌, replicate}
use Rattle.std.specs.Int.{w32, leading_zeros}
use Rattle.model_bits.specs.Reading.{Reading, ◌>>=◌, ◌>>◌, give, refuse, require, bits, times}
use Rattle.model_setup.specs.declared.book.BookFault.{BookFault}
use Rattle.model_setup.specs.declared.book.BookFault.TheVariants as causes
use Rattle.model_setup.specs.declared.book.Budget.{Budget}
use Rattle.model_setup.specs.declared.book.LookupKind.{LookupKind}
use Rattle.model_setup.specs.declared.book.LookupKind.TheVariants.{Lattice, Tessellation}
use Rattle.model_setup.specs.Codebook.{Codebook, Lookup}
use Rattle.model_setup.specs.Codewords.{book_words}
use Rattle.model_setup.specs.Vectors.{multiplicand_count}

abbrev pub field : ℕ → Reading BookFault ℕ
field count = bits causes.End count

-- the number of binary digits of a number below 2 ^ 32 (Vorbis I, section 9.2.1)
abbrev pub ilog : ℕ → ℕ
ilog n = 32 - leading_zeros w32 n

-- the dimensions and the number of entries, of which there may be so many
unfoldable pub front_at : ℕ → Reading BookFault (ℕ × ℕ)
front_at most = do
  sync ← field 24
  require (sync == 0x564342) causes.Sync
  dimensions ← field 16
  entries ← field 24
  require (nat_le entries most) causes.Limit
  give (dimensions, entries)

unfoldable pub length_at : Reading BookFault (Option ℕ)
length_at = do
  n ← field 5
  give (Some (n + 1))

-- an entry's length, behind a used flag in a sparse book
unfoldable pub entry_length_at : ℕ → Reading BookFault (Option ℕ)
entry_length_at zero = length_at
entry_length_at (suc sparse) = do
  used ← field 1
  if used == 1 then length_at else give None

-- runs of one length after the other: so many lengths up to 32 are left, this is the next, and so
-- many entries remain
unfoldable pub runs_at : ℕ → ℕ → ℕ → Reading BookFault (List (Option ℕ))
runs_at more len zero = give []
runs_at zero len (suc remain) = refuse causes.Tree
runs_at (suc more) len (suc remain) = do
  run ← field (ilog (suc remain))
  require (nat_le run (suc remain)) causes.Tree
  others ← runs_at more (len + 1) (suc remain - run)
  give (replicate run (Some len) ++ others)

unfoldable pub ordered_lengths_at : ℕ → Reading BookFault (List (Option ℕ))
ordered_lengths_at entries = do
  first ← field 5
  runs_at (32 - first) (first + 1) entries

unfoldable pub unordered_lengths_at : ℕ → Reading BookFault (List (Option ℕ))
unordered_lengths_at entries = do
  sparse ← field 1
  times entries (entry_length_at sparse)

-- the length of each entry's codeword
unfoldable pub length_list_at : ℕ → Reading BookFault (List (Option ℕ))
length_list_at entries = do
  ordered ← field 1
  if ordered == 1 then ordered_lengths_at entries else unordered_lengths_at entries

-- the lengths, whose codewords must make a whole tree
unfoldable pub lengths_at : ℕ → Reading BookFault (List (Option ℕ))
lengths_at entries = do
  lengths ← length_list_at entries
  require (is_some (book_words lengths)) causes.Tree
  give lengths

-- a lookup of this kind, which may have so many multiplicands
unfoldable pub table_at : LookupKind → ℕ → ℕ → ℕ → Reading BookFault (Option Lookup)
table_at kind dimensions entries most = do
  require (nat_lt 0 dimensions) causes.Lookup
  minimum ← field 32
  delta ← field 32
  value_bits ← field 4
  sequence ← field 1
  require (nat_le (multiplicand_count kind dimensions entries) most) causes.Limit
  multiplicands ← times (multiplicand_count kind dimensions entries) (field (value_bits + 1))
  give (Some (record {
    kind = kind;
    minimum = minimum;
    delta = delta;
    sequence = sequence == 1;
    multiplicands = multiplicands;
  }))

abbrev pub lookup_of_type : ℕ → ℕ → ℕ → ℕ → Reading BookFault (Option Lookup)
lookup_of_type kind dimensions entries most =
    if kind == 0 then give None
    else if kind == 1 then table_at Lattice dimensions entries most
    else if kind == 2 then table_at Tessellation dimensions entries most
    else refuse causes.Lookup

unfoldable pub lookup_at : ℕ → ℕ → ℕ → Reading BookFault (Option Lookup)
lookup_at dimensions entries most = do
  kind ← field 4
  lookup_of_type kind dimensions entries most

-- how many multiplicands a book holds
abbrev pub multiplicands_of : Option Lookup → ℕ
multiplicands_of None = 0
multiplicands_of (Some lookup) = length lookup.multiplicands

-- a codebook, and what is left of the budget of entries and multiplicands after it
unfoldable pub book_at : Budget → Reading BookFault (Codebook × Budget)
book_at budget = do
  front ← front_at budget.entries
  lengths ← lengths_at front.1
  lookup ← lookup_at front.0 front.1 budget.multiplicands
  give (
    record { dimensions = front.0; lengths = lengths; lookup = lookup },
    record {
      entries = budget.entries - front.1;
      multiplicands = budget.multiplicands - multiplicands_of lookup;
    },
  )
