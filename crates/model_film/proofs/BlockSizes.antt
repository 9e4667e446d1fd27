-- How many channels the block of a packet has, and how many values each has.
use Rattle.std.proofs.Common.{◌≡◌, ◌<◌, ◌-◌, ℕ, suc, ◌*◌, ◌/◌, ℤ, pos, Bool, true, false, List, [], ◌∷◌, length, map, take, drop, get_or, cond, Option, Some, None, Result, Ok, Err, refl, sym, ap, subst, ◌∙◌, arith}
use Rattle.std.specs.Prelude.{is_some, nat_lt, slice_index, slice_index_or, ◌==◌}
use Rattle.std.specs.List.{All}
use Rattle.std.proofs.lemmas.Bool.{ltb-true}
use Rattle.std.proofs.lemmas.List.{get_or-map, length-map, length-replicate}
use Rattle.std.proofs.lemmas.List.Elements.{All-get_or, All-from_get_or}
use Rattle.std.proofs.lemmas.List.FromFn.{length-map-range_with_len, get_or-map-range_with_len}
use Rattle.model_fixed.specs.Fixed.{shift_down}
use Rattle.model_bits.specs.Bits.{bits_of, number_of, take_bits}
use Rattle.model_bits.specs.Reading.{then_read, or_end, give, require, ◌>>=◌, ◌>>◌}
use Rattle.model_setup.specs.declared.setup.PacketHead.{PacketHead}
use Rattle.model_setup.specs.declared.setup.PacketHead.TheVariants.{Skip, Bad, Block}
use Rattle.model_setup.specs.Codebook.{Codebook}
use Rattle.model_setup.specs.BookReading.{ilog}
use Rattle.model_setup.specs.AudioHead.{window_flags_at, block_head_at, or_bad, head_by_kind, head_of}
use Rattle.model_setup.specs.FloorSetup.{FloorSetup}
use Rattle.model_setup.specs.declared.head.IdentFields.{IdentFields}
use Rattle.model_setup.specs.HeaderPackets.{IsBlockSize}
use Rattle.model_setup.specs.SetupPacket.{Mapping, Mode, SetupFields, IsCoupling, IsMapping}
use Rattle.model_synthesis.specs.declared.window_form.WindowForm.{WindowForm}
use Rattle.model_synthesis.specs.Tables.{ConstantTables}
use Rattle.model_synthesis.specs.Coupling.{channel}
use Rattle.model_synthesis.specs.Spectrum.{shaped_bin, shaped}
use Rattle.model_synthesis.specs.Transform.{sum_at, transformed}
use Rattle.model_synthesis.specs.Windows.{window_form, windowed_at, windowed}
use Rattle.model_synthesis.proofs.BlockSizes.{block_size_even}
use Rattle.model_line.specs.Acceptance.{FilmLink}
use Rattle.model_line.specs.Blocks.{len_of}
use Rattle.model_line.specs.Origins.{size_of}
use Rattle.model_line.specs.PacketRows.{block_flags}
use Rattle.model_block.specs.declared.sizes.BlockSizes.{BlockSizes}
use Rattle.model_block.specs.PacketParts.{floor_of, read_curve, read_curves, channel_curves, wanted_channels}
use Rattle.model_block.specs.PacketBlocks.{spectrum_of, channel_values, all_values, packet_parts, no_mode, no_mapping, block_by_mode, block_by_head, packet_block}
use Rattle.model_block.specs.FilmBlocks.{block_in_link}
use Rattle.model_film.specs.Links.{AreHeaders, IsLink}
use Rattle.model_film.specs.Laws.{BlocksAreWhole}
use Rattle.model_film.proofs.ResidueSizes.{AreSized, apart_sized}

-- ---- the values of channels

curves_count : (books : List Codebook) (size : ℕ) (floors : List FloorSetup) (left : List Bool) → length (read_curves books size floors left).0 ≡ length floors
unfolding read_curves
curves_count books size [] left = refl
curves_count books size (floor ∷ floors) left = ap suc (curves_count books size floors (read_curve books size floor left).1)

pub spectrum_length : (tables : ConstantTables) (residue : List ℤ) (curve : Option (List ℕ)) → length (spectrum_of tables residue curve) ≡ length residue
unfolding shaped
spectrum_length tables residue None = length-replicate (length residue) (pos 0)
spectrum_length tables residue (Some curve) = length-map-range_with_len (λ k. shaped_bin tables (slice_index_or residue k (pos 0)) (slice_index curve k)) 0 (length residue)

transformed_length : (tables : ConstantTables) (spectrum : List ℤ) → length (transformed tables spectrum) ≡ 2 * length spectrum
unfolding transformed
transformed_length tables spectrum = length-map-range_with_len (λ i. shift_down (sum_at tables (2 * length spectrum) spectrum i) tables.scale) 0 (2 * length spectrum)

windowed_length : (tables : ConstantTables) (form : WindowForm) (values : List ℤ) → length (windowed tables form values) ≡ length values
unfolding windowed
windowed_length tables form values = length-map-range_with_len (windowed_at tables form values) 0 (length values)

values_length : (tables : ConstantTables) (form : WindowForm) (residue : List ℤ) (curve : Option (List ℕ)) → length (channel_values tables form residue curve) ≡ 2 * length residue
values_length tables form residue curve =
    let spectrum = spectrum_of tables residue curve in
    windowed_length tables form (transformed tables spectrum)
    ∙ (transformed_length tables spectrum ∙ ap (λ n. 2 * n) (spectrum_length tables residue curve))

values_sized : (tables : ConstantTables) (form : WindowForm) (count bins : ℕ) (residues : List (List ℤ)) (curves : List (Option (List ℕ))) → AreSized count bins residues → length curves ≡ count → AreSized count (2 * bins) (all_values tables form residues curves)
unfolding all_values
values_sized tables form count bins residues curves are is =
    let values : ℕ → List ℤ = λ c. channel_values tables form (channel residues c) (slice_index_or curves c None) in
    record {
      number = length-map-range_with_len values 0 (length curves) ∙ is;
      sizes = λ c lt. ap length (get_or-map-range_with_len values 0 (length curves) c c [] (omega (arith, lt, is)) (omega arith))
          ∙ (values_length tables form (channel residues c) (slice_index_or curves c None) ∙ ap (λ n. 2 * n) (are.sizes c lt));
    }

-- ---- the block of a mode

pub parts_sized : (setup : SetupFields) (mapping : Mapping) (bins : ℕ) (left : List Bool) → All (λ submap. submap < length mapping.submaps) mapping.mux → All (IsCoupling (length mapping.mux)) mapping.couplings
    → AreSized (length mapping.mux) bins (packet_parts setup mapping bins left).0 × (length (packet_parts setup mapping bins left).1 ≡ length mapping.mux)
unfolding packet_parts
parts_sized setup mapping bins left named within =
    let read = channel_curves setup mapping bins left in
    let wanted = wanted_channels mapping.couplings (map is_some read.0) in (
      apart_sized setup mapping bins wanted read.1 named within,
      curves_count setup.books bins (map (floor_of setup mapping) mapping.mux) left ∙ length-map mapping.mux (floor_of setup mapping),
    )

-- the mapping of a mode of a setup
pub mapping_there : (ident : IdentFields) (setup : SetupFields) (number : ℕ) → AreHeaders ident setup → number < length setup.modes
    → IsMapping ident.channels (length setup.floors) (length setup.residues) (get_or setup.mappings (get_or setup.modes number no_mode).mapping no_mapping)
mapping_there ident setup number is lt =
    let mode = get_or setup.modes number no_mode in
    let named : mode.mapping < length setup.mappings = All-get_or (λ (m : Mode). m.mapping < length setup.mappings) setup.modes number no_mode lt is.modes in
    All-get_or (IsMapping ident.channels (length setup.floors) (length setup.residues)) setup.mappings mode.mapping no_mapping named is.mappings

mode_sized : (tables : ConstantTables) (sizes : BlockSizes) (ident : IdentFields) (setup : SetupFields) (number : ℕ) (previous next : Bool) (left : List Bool) → AreHeaders ident setup → number < length setup.modes
    → let size = size_of sizes.short sizes.long (get_or setup.modes number no_mode).long in size ≡ 2 * (size / 2) → AreSized ident.channels size (block_by_mode tables sizes setup number previous next left)
unfolding block_by_mode
mode_sized tables sizes ident setup number previous next left is lt even =
    let mode = get_or setup.modes number no_mode in
    let mapping = get_or setup.mappings mode.mapping no_mapping in
    let size = size_of sizes.short sizes.long mode.long in
    let whole = mapping_there ident setup number is lt in
    let within = subst (λ n. All (IsCoupling n) mapping.couplings) (sym whole.all_channels) whole.couplings in
    let parts = packet_parts setup mapping (size / 2) left in
    let sized = parts_sized setup mapping (size / 2) left whole.mux within in
    let block = all_values tables (window_form sizes.short mode.long previous next size) parts.0 parts.1 in
    let values : AreSized (length mapping.mux) (2 * (size / 2)) block = values_sized tables (window_form sizes.short mode.long previous next size) (length mapping.mux) (size / 2) parts.0 parts.1 sized.0 sized.1 in
    subst (λ n. AreSized ident.channels n block) (sym even) (subst (λ n. AreSized n (2 * (size / 2)) block) whole.all_channels values)

-- ---- the mode of a packet is there

with_windows : (m n : ℕ) (p q : Bool) (rest : List Bool) (w : Result ((Bool × Bool) × List Bool) (Unit {0}))
    → then_read w (λ f. give (Block m f.0 f.1)) ≡ Ok (Block n p q, rest) → m ≡ n
with_windows m n p q rest (Ok w) e = let h : Block m w.0.0 w.0.1 ≡ Block n p q = ap or_bad e in cc
with_windows m n p q rest (Err x) e = cc

with_mode : (flags : List Bool) (m n : ℕ) (p q : Bool) (left rest : List Bool) (below : Bool) → nat_lt m (length flags) ≡ below
    → then_read (require below tt left) (λ _. window_flags_at (slice_index_or flags m false) >>= λ f. give (Block m f.0 f.1)) ≡ Ok (Block n p q, rest)
    → n < length flags
with_mode flags m n p q left rest true lt e =
    subst (λ k. k < length flags) (with_windows m n p q rest (window_flags_at (slice_index_or flags m false) left) e) (ltb-true m (length flags) lt)
with_mode flags m n p q left rest false lt e = cc

with_number : (flags : List Bool) (n : ℕ) (p q : Bool) (rest : List Bool) (o : Option (ℕ × List Bool))
    → then_read (or_end tt o) (λ mode. require (nat_lt mode (length flags)) tt >> (window_flags_at (slice_index_or flags mode false) >>= λ f. give (Block mode f.0 f.1))) ≡ Ok (Block n p q, rest)
    → n < length flags
with_number flags n p q rest None e = cc
with_number flags n p q rest (Some read) e = with_mode flags read.0 n p q read.1 rest (nat_lt read.0 (length flags)) refl e

pub mode_there : (flags : List Bool) (n : ℕ) (p q : Bool) (left rest : List Bool) → block_head_at flags left ≡ Ok (Block n p q, rest) → n < length flags
unfolding block_head_at
mode_there flags n p q left rest e = with_number flags n p q rest (take_bits (ilog (length flags - 1)) left) e

-- ---- the block of a packet

-- by what was read of its head
read_sized : (tables : ConstantTables) (sizes : BlockSizes) (ident : IdentFields) (setup : SetupFields) (number : ℕ) (previous next : Bool) (read : Result (PacketHead × List Bool) (Unit {0})) → AreHeaders ident setup
    → let size = size_of sizes.short sizes.long (get_or setup.modes number no_mode).long in size ≡ 2 * (size / 2)
    → ((rest : List Bool) → read ≡ Ok (Block number previous next, rest) → number < length setup.modes)
    → or_bad read ≡ Block number previous next → AreSized ident.channels size (block_by_head tables sizes setup read) × (number < length setup.modes)
read_sized tables sizes ident setup number previous next (Ok (Block m p q, rest)) is even below head =
    let m-is : m ≡ number = grind (arith, head) in
    let p-is : p ≡ previous = grind (arith, head) in
    let q-is : q ≡ next = grind (arith, head) in
    let lt : number < length setup.modes = below rest (rw (m-is, p-is, q-is) refl) in
    rw (m-is) (mode_sized tables sizes ident setup number p q rest is lt even, lt)
read_sized tables sizes ident setup number previous next (Ok (Skip, rest)) is even below head = cc
read_sized tables sizes ident setup number previous next (Ok (Bad, rest)) is even below head = cc
read_sized tables sizes ident setup number previous next (Err e) is even below head = cc

pub even_size : (short long : ℕ) (is_long : Bool) → IsBlockSize short → IsBlockSize long → size_of short long is_long ≡ 2 * (size_of short long is_long / 2)
even_size short long true is_short of_long = omega (arith, block_size_even long of_long)
even_size short long false is_short of_long = omega (arith, block_size_even short is_short)

first_bit : (b : Bool) (head : PacketHead) (n : ℕ) (p q : Bool) → cond b head Skip ≡ Block n p q → head ≡ Block n p q
first_bit true head n p q e = e
first_bit false head n p q e = cc

behind_bit : (flags left : List Bool) (n : ℕ) (p q : Bool) (ends : Bool) → head_by_kind flags (cond ends None (Some (number_of (take 1 left), drop 1 left))) ≡ Block n p q → or_bad (block_head_at flags (drop 1 left)) ≡ Block n p q
behind_bit flags left n p q true e = cc
behind_bit flags left n p q false e = first_bit (number_of (take 1 left) == 0) (or_bad (block_head_at flags (drop 1 left))) n p q e

pub head_read : (flags : List Bool) (bytes : List ℕ) (n : ℕ) (p q : Bool) → head_of flags bytes ≡ Block n p q → or_bad (block_head_at flags (drop 1 (bits_of bytes))) ≡ Block n p q
unfolding head_of
head_read flags bytes n p q e = behind_bit flags (bits_of bytes) n p q (nat_lt (length (bits_of bytes)) 1) e

module _ (tables : ConstantTables) (link : FilmLink) (bytes : List ℕ) (mode : ℕ) (previous next : Bool) (is : IsLink link) (head : head_of (block_flags link.setup) bytes ≡ Block mode previous next) where
  abbrev pub size : ℕ
  size = size_of link.ident.short link.ident.long (slice_index_or (block_flags link.setup) mode false)

  pub size_even : size ≡ 2 * (size / 2)
  size_even = even_size link.ident.short link.ident.long (slice_index_or (block_flags link.setup) mode false) is.short is.long

  -- the channels of the block, and their values
  pub block_sized : AreSized link.ident.channels size (block_in_link tables link bytes)
  unfolding packet_block
  block_sized =
      let flags = block_flags link.setup in
      let long = (get_or link.setup.modes mode no_mode).long in
      let left = drop 1 (bits_of bytes) in
      let even = even_size link.ident.short link.ident.long long is.short is.long in
      let counted : length flags ≡ length link.setup.modes = length-map link.setup.modes (λ (m : Mode). m.long) in
      let read = read_sized tables (record { short = link.ident.short; long = link.ident.long }) link.ident link.setup mode previous next (block_head_at flags left) is even
      (λ rest e. omega (arith, counted, mode_there flags mode previous next left rest e)) (head_read flags bytes mode previous next head) in
      let long-is : get_or flags mode false ≡ long = get_or-map (λ (m : Mode). m.long) link.setup.modes mode no_mode false read.1 in
      subst (λ b. AreSized link.ident.channels (size_of link.ident.short link.ident.long b) (block_in_link tables link bytes)) (sym long-is) read.0

  -- each channel has as many values as the first, and there is one
  pub block_len : len_of (block_in_link tables link bytes) ≡ size
  block_len = block_sized.sizes 0 is.channels

pub blocks_are_whole : BlocksAreWhole
blocks_are_whole = λ tables link bytes mode previous next is head.
    let size = size_of link.ident.short link.ident.long (slice_index_or (block_flags link.setup) mode false) in
    let block = block_in_link tables link bytes in
    let sized = block_sized tables link bytes mode previous next is head in (
      sized.number,
      All-from_get_or (λ (values : List ℤ). length values ≡ size) block [] (λ c lt. sized.sizes c (omega (arith, lt, sized.number))),
    )
