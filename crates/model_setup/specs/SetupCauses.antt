-- The causes for which a setup packet is refused, as words, and of which cause the parts' own
-- causes are (Vorbis I, section 4.2.4).
use Rattle.std.specs.Prelude.{ℕ, List, ◌++◌, codes}
use Rattle.std.specs.Fmt.{decimal}
use Rattle.model_setup.specs.declared.book.BookFault.{BookFault}
use Rattle.model_setup.specs.declared.book.BookFault.TheVariants as books
use Rattle.model_setup.specs.declared.floor.FloorFault.{FloorFault}
use Rattle.model_setup.specs.declared.floor.FloorFault.TheVariants as floors
use Rattle.model_setup.specs.declared.residue.ResidueFault.{ResidueFault}
use Rattle.model_setup.specs.declared.residue.ResidueFault.TheVariants as residues
use Rattle.model_setup.specs.declared.head.StartCause.{StartCause}
use Rattle.model_setup.specs.declared.head.StartCause.TheVariants as starts
use Rattle.model_setup.specs.declared.setup.SetupCause.{SetupCause}
use Rattle.model_setup.specs.declared.setup.SetupCause.TheVariants as causes
use Rattle.model_setup.specs.declared.setup.SetupFault.{SetupFault}
use Rattle.model_setup.specs.declared.setup.SetupFault.TheVariants.{Bad, Memory}

-- ---- their words

abbrev pub setup_word : SetupCause → List ℕ
setup_word causes.Kind = codes "kind"
setup_word causes.End = codes "end"
setup_word causes.BookSync = codes "book-sync"
setup_word causes.BookTree = codes "book-tree"
setup_word causes.BookLookup = codes "book-lookup"
setup_word causes.BookLimit = codes "book-limit"
setup_word causes.Time = codes "time"
setup_word causes.FloorZero = codes "floor-zero"
setup_word causes.FloorKind = codes "floor-kind"
setup_word causes.FloorBook = codes "floor-book"
setup_word causes.FloorList = codes "floor-list"
setup_word causes.ResidueKind = codes "residue-kind"
setup_word causes.ResidueBook = codes "residue-book"
setup_word causes.MappingKind = codes "mapping-kind"
setup_word causes.MappingCoupling = codes "mapping-coupling"
setup_word causes.MappingReserved = codes "mapping-reserved"
setup_word causes.MappingMux = codes "mapping-mux"
setup_word causes.MappingFloor = codes "mapping-floor"
setup_word causes.MappingResidue = codes "mapping-residue"
setup_word causes.ModeWindow = codes "mode-window"
setup_word causes.ModeTransform = codes "mode-transform"
setup_word causes.ModeMapping = codes "mode-mapping"
setup_word causes.Framing = codes "framing"

abbrev pub setup_fault_text : SetupFault → List ℕ
setup_fault_text (Bad cause item) =
    codes "setup " ++ (setup_word cause ++ (codes " " ++ decimal item))
setup_fault_text Memory = codes "out of memory"

-- ---- the parts' own causes; the end of the packet is no item's

abbrev pub end_fault : SetupFault
end_fault = Bad causes.End 0

abbrev pub start_fault : StartCause → SetupFault
start_fault starts.Kind = Bad causes.Kind 0
start_fault starts.End = end_fault

-- of the book of this number
abbrev pub book_fault : ℕ → BookFault → SetupFault
book_fault number books.End = end_fault
book_fault number books.Sync = Bad causes.BookSync number
book_fault number books.Tree = Bad causes.BookTree number
book_fault number books.Lookup = Bad causes.BookLookup number
book_fault number books.Limit = Bad causes.BookLimit number
book_fault number books.Memory = Memory

-- of the floor of this number
abbrev pub floor_fault : ℕ → FloorFault → SetupFault
floor_fault number floors.End = end_fault
floor_fault number floors.Book = Bad causes.FloorBook number
floor_fault number floors.List = Bad causes.FloorList number

-- of the residue of this number
abbrev pub residue_fault : ℕ → ResidueFault → SetupFault
residue_fault number residues.Kind = Bad causes.ResidueKind number
residue_fault number residues.End = end_fault
residue_fault number residues.Book = Bad causes.ResidueBook number
residue_fault number residues.Memory = Memory
