-- The whole packet.
use Rattle.std.proofs.Common.{◌≡◌, ℕ, ◌-◌, ◌%◌, List, [], ◌∷◌, ◌++◌, length, replicate, flat_map, refl, sym, ap, ◌∙◌, append_assoc, ◌==◌, not, Result, Ok, Err, Bool, false, arith, eqb-true}
use Rattle.std.specs.Prelude.{codes}
use Rattle.std.specs.List.{range_with_len}
use Rattle.model_bits.specs.Bits.{bits_of}
use Rattle.model_bits.specs.Reading.{Reading, ◌>>=◌, give, each, without_rest}
use Rattle.model_bits.specs.Writing.{WrittenField, WasRead, bits_of_fields, in_bits, count_in_bits}
use Rattle.model_bits.proofs.Numbers.{bits_of-append}
use Rattle.model_setup.specs.declared.book.Budget.{Budget}
use Rattle.model_setup.specs.declared.head.StartCause.TheVariants as starts
use Rattle.model_setup.specs.declared.setup.SetupCause.TheVariants as causes
use Rattle.model_setup.specs.declared.setup.SetupFault.{SetupFault}
use Rattle.model_setup.specs.declared.setup.SetupFault.TheVariants.{Bad}
use Rattle.model_setup.specs.SetupCauses.{end_fault, start_fault, book_fault, floor_fault, residue_fault}
use Rattle.model_setup.specs.Codebook.{Codebook}
use Rattle.model_setup.specs.ResidueSetup.{ResidueSetup}
use Rattle.model_setup.specs.HeaderPackets.{bytes_at}
use Rattle.model_setup.specs.SetupPacket.{SetupFields, zero_at, next_book_at, whole_budget, books_at, times_at, numbered_floor_at, floors_at, numbered_residue_at, residues_at, framing_at, setup_at}
use Rattle.model_writing.specs.SetupWriting.{book_fields, floor_fields, residue_type, residue_fields, counted_fields, setup_fields}
use Rattle.model_writing.specs.SetupLaws.{SetupsReadBack, SetupFieldsHavePlaces, SetupPacketsReadBack, SetupsOfPacketsWereRead}
use Rattle.model_writing.proofs.Kept.{Kept, kept_back, kept_fits, AreRead, kept, bind, next, skip, last, ends, done, tested, test_last, number, renamed, of_numbers, of_states, are_given, are_in_turn, are_map}
use Rattle.model_writing.proofs.Numbers.{count_kept, zero_are, count_are}
use Rattle.model_writing.proofs.Books.{book_kept}
use Rattle.model_writing.proofs.Floors.{floor_kept}
use Rattle.model_writing.proofs.Residues.{residue_kept}
use Rattle.model_writing.proofs.Mappings.{mappings_kept, modes_kept}

start_kept : (wanted : List ℕ) → Kept (bytes_at wanted) (λ n. flat_map (in_bits 8) wanted) (λ n. Unit {0})
unfolding bytes_at
start_kept [] = kept (done (refl, tt))
start_kept (byte ∷ wanted) =
    kept (bind (number starts.End 8) (λ n small. tested (n == byte) starts.Kind (λ is. ends (start_kept wanted) (λ m u. (ap (λ k. in_bits 8 k ++ flat_map (in_bits 8) wanted) (eqb-true n byte is), tt)))))

next_book_kept : (before : ℕ × Budget) → Kept (next_book_at before) (λ book. book_fields book.0) (λ book. Unit {0})
unfolding next_book_at
next_book_kept before = kept (last _ (renamed (book_fault before.0) (book_kept before.1)) (λ book u. (refl, tt)))

books_kept : Kept books_at (counted_fields 8 book_fields) (λ books. Unit {0})
unfolding books_at
books_kept =
    kept (bind (count_kept 8) (λ count u. last _ (of_states book_fields count next_book_kept (0, whole_budget)) (λ books long. (ap (λ n. count_in_bits 8 n ++ flat_map book_fields books.0) (sym long), tt))))

-- one placeholder, however many were read
times_are : AreRead times_at (0 ∷ []) (in_bits 6 0 ++ in_bits 16 0)
unfolding times_at
times_are =
    let item : ℕ → Reading SetupFault ℕ = λ n. zero_at 16 (Bad causes.Time n) in
    are_in_turn (λ count. each item (range_with_len 0 count)) 1 (count_are 6 0 (omega arith))
    (are_in_turn (λ y. each item [] >>= λ ys. give (y ∷ ys)) 0 (zero_are 16 (Bad causes.Time 0)) (are_map (λ ys. 0 ∷ ys) (are_given [])))

numbered_floor_kept : (books item : ℕ) → Kept (numbered_floor_at books item) (λ floor. in_bits 16 1 ++ floor_fields floor) (λ floor. Unit {0})
unfolding numbered_floor_at
numbered_floor_kept books item =
    kept (bind (number end_fault 16) (λ kind small. tested (not (kind == 0)) (Bad causes.FloorZero item) (λ some. tested (kind == 1) (Bad causes.FloorKind item) (λ one.
    ends (renamed (floor_fault item) (floor_kept books)) (λ floor u. (ap (λ n. in_bits 16 n ++ floor_fields floor) (eqb-true kind 1 one), tt))))))

floors_kept : (books : ℕ) → Kept (floors_at books) (counted_fields 6 (λ floor. in_bits 16 1 ++ floor_fields floor)) (λ floors. Unit {0})
unfolding floors_at
floors_kept books =
    kept (bind (count_kept 6) (λ count u. ends (of_numbers 0 count (numbered_floor_kept books)) (λ floors facts.
    (ap (λ n. count_in_bits 6 n ++ flat_map (λ floor. in_bits 16 1 ++ floor_fields floor) floors) (sym facts.0), tt))))

abbrev typed_fields : ResidueSetup → List WrittenField
typed_fields residue = in_bits 16 (residue_type residue.kind) ++ residue_fields residue

numbered_residue_kept : (books : List Codebook) (item : ℕ) → Kept (numbered_residue_at books item) typed_fields (λ residue. Unit {0})
unfolding numbered_residue_at
numbered_residue_kept books item =
    kept (bind (number end_fault 16) (λ type small. ends (renamed (residue_fault item) (residue_kept type books)) (λ residue is. (ap (λ n. in_bits 16 n ++ residue_fields residue) is, tt))))

residues_kept : (books : List Codebook) → Kept (residues_at books) (counted_fields 6 typed_fields) (λ residues. Unit {0})
unfolding residues_at
residues_kept books =
    kept (bind (count_kept 6) (λ count u. ends (of_numbers 0 count (numbered_residue_kept books)) (λ residues facts. (ap (λ n. count_in_bits 6 n ++ flat_map typed_fields residues) (sym facts.0), tt))))

framing_kept : Kept framing_at (λ n. in_bits 1 1) (λ n. Unit {0})
unfolding framing_at
framing_kept = kept (bind (number end_fault 1) (λ f small. test_last (f == 1) (Bad causes.Framing 0) (λ set. (ap (in_bits 1) (eqb-true f 1 set), tt))))

pub setup_kept : (channels : ℕ) → Kept (setup_at channels) setup_fields (λ setup. Unit {0})
unfolding setup_at
setup_kept channels =
    kept (next (renamed start_fault (start_kept (5 ∷ codes "vorbis"))) (λ start u.
    bind books_kept (λ books u.
    skip (0 ∷ []) times_are (
    bind (floors_kept (length books)) (λ floors u.
    bind (residues_kept books) (λ residues u.
    bind (mappings_kept channels (length floors) (length residues)) (λ mappings u.
    bind (modes_kept (length mappings)) (λ modes u.
    next framing_kept (λ framing u. done (refl, tt))))))))))

pub setup_back : SetupsReadBack
setup_back channels = kept_back (setup_kept channels)

pub setup_fits : SetupFieldsHavePlaces
setup_fits channels = kept_fits (setup_kept channels)

-- from bytes that the fields fill, whatever bytes follow
pub packet_back : SetupPacketsReadBack
packet_back channels setup bytes others was fill =
    let front = bits_of_fields (setup_fields setup) in
    let zeros = replicate ((8 - length front % 8) % 8) false in
    let split : bits_of (bytes ++ others) ≡ front ++ (zeros ++ bits_of others) = bits_of-append bytes others ∙ ap (λ bs. bs ++ bits_of others) fill ∙ append_assoc front zeros (bits_of others) in
    ap (λ bs. without_rest (setup_at channels bs)) split ∙ ap without_rest (setup_back channels setup was (zeros ++ bits_of others))

ok_is : (r : Result SetupFields SetupFault) (x y : SetupFields) → r ≡ Ok x → r ≡ Ok y → x ≡ y
ok_is r x y is_x is_y = cc

refused_is : (fault : SetupFault) (x : SetupFields) → Err fault ≡ Ok x → ⊥
refused_is fault x is = cc

-- what is left behind it does not matter
read_with : (channels : ℕ) (setup : SetupFields) (packet : List ℕ) (r : Result (SetupFields × List Bool) SetupFault) → setup_at channels (bits_of packet) ≡ r → without_rest r ≡ Ok setup → WasRead (setup_at channels) setup
read_with channels setup packet (Ok x) read is = record {
  before = bits_of packet;
  left = x.1;
  read = read ∙ ap (λ y. Ok (y, x.1)) (ok_is (Ok x.0) x.0 setup refl is);
}
read_with channels setup packet (Err fault) read is = absurd (refused_is fault setup is)

pub packet_read : SetupsOfPacketsWereRead
packet_read channels setup packet is = read_with channels setup packet (setup_at channels (bits_of packet)) refl is
