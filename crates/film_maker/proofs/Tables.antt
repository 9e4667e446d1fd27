-- The fields of a made setup, as tables of them are put, and the bytes that they fill.
use Rattle.std.proofs.Common.{◌≡◌, ℕ, zero, suc, ◌+◌, ◌*◌, ◌/◌, ◌^◌, ◌<◌, ◌≤◌, nat_le, nat_lt, List, [], ◌∷◌, ◌++◌, length, get_or, take, drop, map, Ok, Bool, true, false, ◌&&◌, refl, sym, ap, ◌∙◌, arith, append-nil, append_assoc, length-append, lit≤, lit<}
use lib.Count.{count_leading_zeros}
use Rattle.std.specs.List.{All, list_all, range_with_len}
use Rattle.std.proofs.Math.Seq.{drop-append_seam}
use Rattle.std.proofs.lemmas.Bool.{leb-true, ltb-true}
use Rattle.std.proofs.lemmas.List.{take_more, map-append, length-map}
use Rattle.std.proofs.lemmas.List.FromFn.{length-range_with_len}
use Rattle.std.proofs.lemmas.List.Elements.{All-nil, All-cons, All-tail}
use Rattle.model_bits.specs.Bits.{bits_of, bits_of_number, number_of}
use Rattle.model_bits.specs.Writing.{WrittenField, bits_of_fields, filled, WasRead}
use Rattle.model_bits.proofs.BitList.{length-bits_of}
use Rattle.model_bits.proofs.Numbers.{bits_of-drop}
use Rattle.model_bits.proofs.ReadsBack.{bits_of_fields-append}
use Rattle.model_bits.proofs.RoundTrip.{number_of-bits_of_number}
use Rattle.model_setup.specs.SetupPacket.{SetupFields, setup_at, setup_of}
use Rattle.model_writing.specs.SetupWriting.{setup_fields}
use Rattle.model_writing.proofs.Whole.{packet_back}
use Rattle.model_trial.specs.MadeSetup.{made_setup}
use Rattle.model_trial.specs.MadeFilm.{MadeLink, setup_packet}
use Rattle.model_trial.proofs.Setups.{one_channel, two_channels}
use Rattle.film_maker.specs.SetupTables.{IsField, field_of, table_bits, book_bits, residue_bits, mapping_bits, setup_bits}
use Rattle.film_maker.specs.declared.made_setup.TheConstants.{START, FLOOR_BOOK, EIGHT_WORDS, NO_LOOKUP, PAIR_BOOK, SIXTEEN_WORDS, LATTICE, FINE_BOOK, FLOOR_START, FLOOR, RESIDUE, MAPPING, COUPLED_MAPPING, MODES}

-- ---- tables

both : (a b : Bool) → (a && b) ≡ true → (a ≡ true) × (b ≡ true)
both true b e = (refl, e)
both false b e = cc

abbrev pub are_fields : List (ℕ × ℕ) → Bool
are_fields fields = list_all (λ (f : ℕ × ℕ). nat_le f.1 32 && nat_lt f.0 (2 ^ f.1)) fields

pub fields_fit : (fields : List (ℕ × ℕ)) → are_fields fields ≡ true → All IsField fields
fields_fit [] e = All-nil IsField
fields_fit (f ∷ fs) e =
    let h = both (nat_le f.1 32 && nat_lt f.0 (2 ^ f.1)) (are_fields fs) e in
    let here = both (nat_le f.1 32) (nat_lt f.0 (2 ^ f.1)) h.0 in
    All-cons IsField f fs (record { width = leb-true f.1 32 here.0; number = ltb-true f.0 (2 ^ f.1) here.1 }) (fields_fit fs h.1)

-- one field more
pub one_field : (fields : List (ℕ × ℕ)) (i : ℕ) (d : ℕ × ℕ) (before after front : List Bool) → i < length fields → before ≡ front ++ table_bits (take i fields)
    → after ≡ before ++ bits_of_number (get_or fields i d).1 (get_or fields i d).0 → after ≡ front ++ table_bits (take (i + 1) fields)
unfolding table_bits
one_field fields i d before after front within so_far now =
    let f = get_or fields i d in
    let bits = bits_of_number f.1 f.0 in
    let old = take i fields in
    now ∙ ap (λ (bs : List Bool). bs ++ bits) so_far
    ∙ append_assoc front (bits_of_fields (map field_of old)) bits
    ∙ ap (λ (bs : List Bool). front ++ (bits_of_fields (map field_of old) ++ bs)) (sym (append-nil bits))
    ∙ ap (λ (bs : List Bool). front ++ bs) (sym (bits_of_fields-append (map field_of old) (field_of f ∷ [])))
    ∙ ap (λ (fs : List WrittenField). front ++ bits_of_fields fs) (sym (map-append field_of old (f ∷ [])))
    ∙ ap (λ (fs : List (ℕ × ℕ)). front ++ table_bits fs) (sym (take_more fields i d within))

-- ---- what is read of them

was_read : (channels : ℕ) → 1 ≤ channels → channels ≤ 2 → WasRead (setup_at channels) (made_setup channels)
was_read zero some few = absurd (omega arith)
was_read (suc zero) some few = record { before = bits_of_fields (setup_fields (made_setup 1)); left = []; read = one_channel }
was_read (suc (suc zero)) some few = record { before = bits_of_fields (setup_fields (made_setup 2)); left = []; read = two_channels }
was_read (suc (suc (suc n))) some few = absurd (omega arith)

pub setup_again : (channels : ℕ) (bytes : List ℕ) → 1 ≤ channels → channels ≤ 2 → bits_of bytes ≡ filled (setup_bits channels) → setup_of channels bytes ≡ Ok (made_setup channels)
unfolding setup_bits
setup_again channels bytes some few is =
    ap (setup_of channels) (sym (append-nil bytes)) ∙ packet_back channels (made_setup channels) bytes [] (was_read channels some few) is

pub setup_is_read : (channels : ℕ) (bytes : List ℕ) (setup : SetupFields) → setup_of channels bytes ≡ Ok (made_setup channels) → setup_of channels bytes ≡ Ok setup → setup ≡ made_setup channels
setup_is_read channels bytes setup is read = cc

-- ---- bytes

-- the byte at a place, of the bits of bytes
abbrev byte_in : List Bool → ℕ → ℕ
byte_in bits i = number_of (take 8 (drop (8 * i) bits))

abbrev packed : List Bool → List ℕ
packed bits = map (byte_in bits) (range_with_len 0 (length bits / 8))

packed_behind : (before v : List ℕ) → ((i : ℕ) → get_or v i 0 < 256) → map (byte_in (bits_of (before ++ v))) (range_with_len (length before) (length v)) ≡ v
packed_behind before [] small = refl
packed_behind before (x ∷ v) small =
    let ranged = range_with_len (length before + 1) (length v) in
    let here : byte_in (bits_of (before ++ x ∷ v)) (length before) ≡ x =
    ap (λ (bs : List Bool). number_of (take 8 bs)) (bits_of-drop (length before) (before ++ x ∷ v) ∙ ap bits_of (drop-append_seam before (x ∷ v)))
    ∙ number_of-bits_of_number 8 x (small 0) in
    let far : map (byte_in (bits_of (before ++ x ∷ v))) ranged ≡ v =
    ap (λ (bs : List ℕ). map (byte_in (bits_of bs)) ranged) (sym (append_assoc before (x ∷ []) v))
    ∙ ap (λ k. map (byte_in (bits_of ((before ++ x ∷ []) ++ v))) (range_with_len k (length v))) (sym (length-append before (x ∷ [])))
    ∙ packed_behind (before ++ x ∷ []) v (λ i. small (suc i)) in
    ap (λ k. k ∷ map (byte_in (bits_of (before ++ x ∷ v))) ranged) here ∙ ap (λ (bs : List ℕ). x ∷ bs) far

bytes_packed : (v : List ℕ) (bits : List Bool) → ((i : ℕ) → get_or v i 0 < 256) → bits_of v ≡ bits → v ≡ packed bits
bytes_packed v bits small is =
    let count : length v ≡ length (bits_of v) / 8 = omega (arith, length-bits_of v) in
    sym (packed_behind [] v small)
    ∙ ap (λ n. map (byte_in (bits_of v)) (range_with_len 0 n)) count
    ∙ ap packed is

-- bytes of a list, and 0 behind the last
below : (v : List ℕ) (i : ℕ) → All (λ byte. byte < 256) v → get_or v i 0 < 256
below [] i small = lit< tt
below (x ∷ v) zero small = small 0 0 (omega arith)
below (x ∷ v) (suc i) small = below v i (All-tail (λ (byte : ℕ). byte < 256) x v small)

pub packet_is : (link : MadeLink) (v : List ℕ) → All (λ byte. byte < 256) v → bits_of v ≡ filled (setup_bits link.channels) → v ≡ setup_packet link
unfolding setup_packet setup_bits
packet_is link v small is = bytes_packed v (filled (setup_bits link.channels)) (λ i. below v i small) is

pub filled_is : (channels : ℕ) (v : List ℕ) (setup : SetupFields) → bits_of v ≡ filled (bits_of_fields (setup_fields setup)) → setup ≡ made_setup channels → bits_of v ≡ filled (setup_bits channels)
unfolding setup_bits
filled_is channels v setup is same = is ∙ ap (λ s. filled (bits_of_fields (setup_fields s))) same

pub no_fields : (front : List Bool) → front ≡ front ++ table_bits []
unfolding table_bits
no_fields front = sym (append-nil front)

-- ---- the tables of the setup

-- bits behind bits
pub added : (front xs ys before after : List Bool) → before ≡ front ++ xs → after ≡ before ++ ys → after ≡ front ++ (xs ++ ys)
added front xs ys before after so_far now = now ∙ ap (λ (bs : List Bool). bs ++ ys) so_far ∙ append_assoc front xs ys

pub books_are : (((((((((table_bits START ++ table_bits FLOOR_BOOK) ++ table_bits EIGHT_WORDS) ++ table_bits NO_LOOKUP) ++ table_bits PAIR_BOOK) ++ table_bits SIXTEEN_WORDS) ++ table_bits NO_LOOKUP) ++ table_bits PAIR_BOOK) ++ table_bits SIXTEEN_WORDS) ++ table_bits LATTICE) ++ table_bits FINE_BOOK ≡ book_bits
unfolding table_bits book_bits
books_are = refl

abbrev pub residue_start : ℕ → List (ℕ × ℕ)
residue_start end = (0, 6) ∷ (2, 16) ∷ (0, 24) ∷ (end, 24) ∷ []

pub residue_is : (channels end : ℕ) → end ≡ 128 * channels → table_bits (residue_start end) ++ table_bits RESIDUE ≡ residue_bits channels
unfolding table_bits residue_bits
residue_is channels end is = ap (λ e. table_bits (residue_start e) ++ table_bits RESIDUE) is

coupled : table_bits COUPLED_MAPPING ≡ mapping_bits 2
unfolding table_bits mapping_bits count_leading_zeros
coupled = refl

uncoupled : table_bits MAPPING ≡ mapping_bits 1
unfolding table_bits mapping_bits count_leading_zeros
uncoupled = refl

pub coupled_is : (channels : ℕ) → channels ≡ 2 → table_bits COUPLED_MAPPING ≡ mapping_bits channels
coupled_is channels is = coupled ∙ sym (ap mapping_bits is)

pub uncoupled_is : (channels : ℕ) → channels ≡ 1 → table_bits MAPPING ≡ mapping_bits channels
uncoupled_is channels is = uncoupled ∙ sym (ap mapping_bits is)

pub setup_is : (channels : ℕ) → 1 ≤ channels → channels ≤ 2 → ((((book_bits ++ table_bits FLOOR_START) ++ table_bits FLOOR) ++ residue_bits channels) ++ mapping_bits channels) ++ table_bits MODES ≡ setup_bits channels
unfolding table_bits book_bits residue_bits mapping_bits setup_bits count_leading_zeros
setup_is zero some few = absurd (omega arith)
setup_is (suc zero) some few = refl
setup_is (suc (suc zero)) some few = refl
setup_is (suc (suc (suc n))) some few = absurd (omega arith)

-- ---- how long the packet is

bits_len : (channels : ℕ) → 1 ≤ channels → channels ≤ 2 → length (filled (setup_bits channels)) ≤ 4000
unfolding setup_bits count_leading_zeros
bits_len zero some few = absurd (omega arith)
bits_len (suc zero) some few = lit≤ tt
bits_len (suc (suc zero)) some few = lit≤ tt
bits_len (suc (suc (suc n))) some few = absurd (omega arith)

packed_len : (bits : List Bool) → length (packed bits) ≡ length bits / 8
packed_len bits = length-map (range_with_len 0 (length bits / 8)) (byte_in bits) ∙ length-range_with_len 0 (length bits / 8)

pub setup_packet_len : (link : MadeLink) → 1 ≤ link.channels → link.channels ≤ 2 → length (setup_packet link) ≤ 500
unfolding setup_packet setup_bits
setup_packet_len link some few = omega (arith, packed_len (filled (setup_bits link.channels)), bits_len link.channels some few)
