-- The setup packet of a Vorbis stream, as its bits stand there (Vorbis I, section 4.2.4), with the
-- first cause of a refusal in reading order.
use Rattle.std.specs.Prelude.{◌≡◌, ℕ, ◌+◌, ◌-◌, ◌<◌, ◌≤◌, List, length, Bool, not, ◌==◌, nat_lt, if◌then◌else◌, Result, replicate}
use Rattle.std.specs.List.{All, range_with_len}
use Rattle.model_bits.specs.Bits.{bits_of}
use Rattle.model_bits.specs.Reading.{Reading, ◌>>=◌, ◌>>◌, give, require, bits, times, repeat, each, relabel, without_rest}
use Rattle.model_setup.specs.declared.setup.Coupling.{Coupling}
use Rattle.model_setup.specs.declared.book.Budget.{Budget}
use Rattle.model_setup.specs.declared.setup.TheConstants.{BOOK_BUDGET}
use Rattle.model_setup.specs.declared.setup.SetupCause.TheVariants as causes
use Rattle.model_setup.specs.declared.setup.SetupFault.{SetupFault}
use Rattle.model_setup.specs.declared.setup.SetupFault.TheVariants.{Bad}
use Rattle.model_setup.specs.Codebook.{Codebook}
use Rattle.model_setup.specs.BookReading.{ilog, book_at}
use Rattle.model_setup.specs.FloorSetup.{FloorSetup, IsFloor, FloorNamesBooks}
use Rattle.model_setup.specs.FloorReading.{floor_at}
use Rattle.model_setup.specs.ResidueSetup.{ResidueSetup, FitsBooks}
use Rattle.model_setup.specs.ResidueReading.{residue_at}
use Rattle.model_setup.specs.HeaderPackets.{start_at}
use Rattle.model_setup.specs.SetupCauses.{end_fault, start_fault, book_fault, floor_fault, residue_fault}

-- ---- what a setup holds

-- a submap: the floor and the residue of its channels, by number
pub record Submap : Type 0 where
  pub floor : ℕ
  pub residue : ℕ

-- a mapping: its coupling steps, the submap of each channel (its mux), and the submaps
pub record Mapping : Type 0 where
  pub couplings : List Coupling
  pub mux : List ℕ
  pub submaps : List Submap

-- a mode: whether its blocks are long (its block flag), and its mapping, by number
pub record Mode : Type 0 where
  pub long : Bool
  pub mapping : ℕ

-- a whole setup
pub record SetupFields : Type 0 where
  pub books : List Codebook
  pub floors : List FloorSetup
  pub residues : List ResidueSetup
  pub mappings : List Mapping
  pub modes : List Mode

-- ---- its fields

abbrev pub setup_field : ℕ → Reading SetupFault ℕ
setup_field count = bits end_fault count

-- a count of so many bits, which stands there less one
unfoldable pub count_at : ℕ → Reading SetupFault ℕ
count_at width = do
  n ← setup_field width
  give (n + 1)

-- a count of so many bits behind a flag, and another count where the flag isn't set
unfoldable pub count_if_flagged_at : ℕ → ℕ → Reading SetupFault ℕ
count_if_flagged_at width other = do
  flag ← setup_field 1
  if flag == 1 then count_at width else give other

-- a number that must be below a bound
unfoldable pub number_below_at : ℕ → ℕ → SetupFault → Reading SetupFault ℕ
number_below_at width bound fault = do
  n ← setup_field width
  require (nat_lt n bound) fault
  give n

-- a number that must be 0
unfoldable pub zero_at : ℕ → SetupFault → Reading SetupFault ℕ
zero_at width fault = do
  n ← setup_field width
  require (n == 0) fault

-- a value for each number below a count, in order
abbrev pub each_number : {A : Type 0} → (ℕ → Reading SetupFault A) → ℕ → Reading SetupFault (List A)
each_number item count = each item (range_with_len 0 count)

-- ---- codebooks, time domain transforms, floors, residues

-- the next book: its number and the budget before it, and those after it
unfoldable pub next_book_at : ℕ × Budget → Reading SetupFault (Codebook × (ℕ × Budget))
next_book_at before = do
  book ← relabel (book_fault before.0) (book_at before.1)
  give (book.0, (before.0 + 1, book.1))

abbrev pub whole_budget : Budget
whole_budget = record { entries = BOOK_BUDGET; multiplicands = BOOK_BUDGET }

unfoldable pub books_at : Reading SetupFault (List Codebook)
books_at = do
  count ← count_at 8
  books ← repeat count next_book_at (0, whole_budget)
  give books.0

-- placeholders, which must be 0
unfoldable pub times_at : Reading SetupFault (List ℕ)
times_at = do
  count ← count_at 6
  each_number (λ number. zero_at 16 (Bad causes.Time number)) count

-- a floor of type 1, in a setup of so many books
unfoldable pub numbered_floor_at : ℕ → ℕ → Reading SetupFault FloorSetup
numbered_floor_at books number = do
  kind ← setup_field 16
  require (not (kind == 0)) (Bad causes.FloorZero number)
  require (kind == 1) (Bad causes.FloorKind number)
  relabel (floor_fault number) (floor_at books)

unfoldable pub floors_at : ℕ → Reading SetupFault (List FloorSetup)
floors_at books = do
  count ← count_at 6
  each_number (numbered_floor_at books) count

unfoldable pub numbered_residue_at : List Codebook → ℕ → Reading SetupFault ResidueSetup
numbered_residue_at books number = do
  kind ← setup_field 16
  relabel (residue_fault number) (residue_at kind books)

unfoldable pub residues_at : List Codebook → Reading SetupFault (List ResidueSetup)
residues_at books = do
  count ← count_at 6
  each_number (numbered_residue_at books) count

-- ---- mappings

-- a coupling step between two of so many channels, which must not be the same
unfoldable pub coupling_at : ℕ → SetupFault → Reading SetupFault Coupling
coupling_at channels fault = do
  magnitude ← number_below_at (ilog (channels - 1)) channels fault
  angle ← number_below_at (ilog (channels - 1)) channels fault
  require (not (angle == magnitude)) fault
  give (record { magnitude = magnitude; angle = angle })

unfoldable pub couplings_at : ℕ → SetupFault → Reading SetupFault (List Coupling)
couplings_at channels fault = do
  count ← count_if_flagged_at 8 0
  times count (coupling_at channels fault)

-- the submap of each channel, which is told where there are several
unfoldable pub mux_at : ℕ → ℕ → SetupFault → Reading SetupFault (List ℕ)
mux_at channels submaps fault =
    if nat_lt 1 submaps
    then times channels (number_below_at 4 submaps fault)
    else give (replicate channels 0)

-- a submap, behind a placeholder of 8 bits
unfoldable pub submap_at : ℕ → ℕ → ℕ → Reading SetupFault Submap
submap_at floors residues number = do
  setup_field 8
  floor ← number_below_at 8 floors (Bad causes.MappingFloor number)
  residue ← number_below_at 8 residues (Bad causes.MappingResidue number)
  give (record { floor = floor; residue = residue })

-- a mapping of a link of so many channels, in a setup of so many floors and residues
unfoldable pub mapping_at : ℕ → ℕ → ℕ → ℕ → Reading SetupFault Mapping
mapping_at channels floors residues number = do
  zero_at 16 (Bad causes.MappingKind number)
  count ← count_if_flagged_at 4 1
  couplings ← couplings_at channels (Bad causes.MappingCoupling number)
  zero_at 2 (Bad causes.MappingReserved number)
  mux ← mux_at channels count (Bad causes.MappingMux number)
  submaps ← times count (submap_at floors residues number)
  give (record { couplings = couplings; mux = mux; submaps = submaps })

unfoldable pub mappings_at : ℕ → ℕ → ℕ → Reading SetupFault (List Mapping)
mappings_at channels floors residues = do
  count ← count_at 6
  each_number (mapping_at channels floors residues) count

-- ---- modes

unfoldable pub mode_at : ℕ → ℕ → Reading SetupFault Mode
mode_at mappings number = do
  flag ← setup_field 1
  zero_at 16 (Bad causes.ModeWindow number)
  zero_at 16 (Bad causes.ModeTransform number)
  mapping ← number_below_at 8 mappings (Bad causes.ModeMapping number)
  give (record { long = flag == 1; mapping = mapping })

unfoldable pub modes_at : ℕ → Reading SetupFault (List Mode)
modes_at mappings = do
  count ← count_at 6
  each_number (mode_at mappings) count

-- ---- the packet

unfoldable pub framing_at : Reading SetupFault ℕ
framing_at = do
  flag ← setup_field 1
  require (flag == 1) (Bad causes.Framing 0)

-- the setup of a link of so many channels
unfoldable pub setup_at : ℕ → Reading SetupFault SetupFields
setup_at channels = do
  relabel start_fault (start_at 5)
  books ← books_at
  times_at
  floors ← floors_at (length books)
  residues ← residues_at books
  mappings ← mappings_at channels (length floors) (length residues)
  modes ← modes_at (length mappings)
  framing_at
  give (record {
    books = books;
    floors = floors;
    residues = residues;
    mappings = mappings;
    modes = modes;
  })

-- the setup of a packet, or the first cause; what follows it is ignored
abbrev pub setup_of : ℕ → List ℕ → Result SetupFields SetupFault
setup_of channels bytes = without_rest (setup_at channels (bits_of bytes))

-- ---- what every setup that is accepted is

-- a coupling step between two of so many channels
pub record IsCoupling (channels : ℕ) (coupling : Coupling) : Type 0 where
  pub magnitude : coupling.magnitude < channels
  pub angle : coupling.angle < channels
  pub apart : coupling.magnitude ≡ coupling.angle → ⊥

-- a submap in a setup of so many floors and residues
pub record IsSubmap (floors residues : ℕ) (submap : Submap) : Type 0 where
  pub floor : submap.floor < floors
  pub residue : submap.residue < residues

-- a mapping of so many channels in a setup of so many floors and residues
pub record IsMapping (channels floors residues : ℕ) (mapping : Mapping) : Type 0 where
  pub couplings : All (IsCoupling channels) mapping.couplings
  pub all_channels : length mapping.mux ≡ channels
  pub mux : All (λ submap. submap < length mapping.submaps) mapping.mux
  pub submaps : All (IsSubmap floors residues) mapping.submaps

-- a setup of a link of so many channels, whose parts fit one another
pub record IsSetup (channels : ℕ) (setup : SetupFields) : Type 0 where
  pub floors : All IsFloor setup.floors
  pub floor_books : All (FloorNamesBooks (length setup.books)) setup.floors
  pub residues : All (FitsBooks setup.books) setup.residues
  pub mappings :
      All (IsMapping channels (length setup.floors) (length setup.residues)) setup.mappings
  pub modes : All (λ (mode : Mode). mode.mapping < length setup.mappings) setup.modes
  pub some_mode : 0 < length setup.modes
  pub few_modes : length setup.modes ≤ 64
