-- All values of a film's blocks are within their limit.
use Rattle.std.proofs.Common.{◌≡◌, ◌≤◌, ◌<◌, ℕ, zero, suc, ◌/◌, ◌^◌, ℤ, Bool, true, false, List, [], ◌∷◌, length, drop, get_or, Result, Ok, Err, refl, sym, subst, arith}
use Rattle.std.specs.List.{All, slice_get}
use Rattle.std.specs.Option.{option_map_or}
use Rattle.std.proofs.Math.Nat.{pow-le-pow_right}
use Rattle.std.proofs.lemmas.List.{length-map}
use Rattle.std.proofs.lemmas.List.Elements.{All-nil, All-head, All-tail}
use Rattle.model_bits.specs.Bits.{bits_of}
use Rattle.model_setup.specs.declared.setup.PacketHead.{PacketHead}
use Rattle.model_setup.specs.declared.setup.PacketHead.TheVariants.{Skip, Bad, Block}
use Rattle.model_setup.specs.AudioHead.{block_head_at}
use Rattle.model_setup.specs.HeaderPackets.{IsBlockSize}
use Rattle.model_setup.specs.SetupPacket.{SetupFields, Mode, IsCoupling}
use Rattle.model_setup.specs.declared.head.IdentFields.{IdentFields}
use Rattle.model_synthesis.specs.Tables.{ConstantTables, AreTables}
use Rattle.model_synthesis.specs.Transform.{IsBlockValue}
use Rattle.model_synthesis.specs.Windows.{window_form}
use Rattle.model_line.specs.Acceptance.{FilmLink}
use Rattle.model_line.specs.Origins.{size_of}
use Rattle.model_line.specs.PacketRows.{BlockPacket, block_flags, block_packets}
use Rattle.model_block.specs.PacketBlocks.{no_mode, no_mapping, packet_parts, block_by_mode, block_by_head, packet_block}
use Rattle.model_block.specs.FilmBlocks.{sizes_in, block_in_link, block_of_packet, film_block}
use Rattle.model_film.specs.Links.{AreHeaders, IsLink}
use Rattle.model_film.specs.Laws.{BlocksAreSmall}
use Rattle.model_film.proofs.BlockSizes.{parts_sized, mapping_there, mode_there}
use Rattle.model_film.proofs.SmallValues.{all_small}

few_bins : (size : ℕ) → IsBlockSize size → size / 2 ≤ 4096
few_bins size is =
    let most : 2 ^ is.exponent ≤ 2 ^ 13 = pow-le-pow_right (omega arith) is.at_most_8192 in
    omega (arith, most, is.is_power)

few_of : (ident : IdentFields) (setup : SetupFields) (long : Bool) → AreHeaders ident setup → size_of ident.short ident.long long / 2 ≤ 4096
few_of ident setup true is = few_bins ident.long is.long
few_of ident setup false is = few_bins ident.short is.short

module _ (tables : ConstantTables) (are : AreTables tables) where
  abbrev AreSmall : List (List ℤ) → Type 0
  AreSmall block = All (All IsBlockValue) block

  none_small : AreSmall []
  none_small = All-nil (All IsBlockValue)

  mode_small : (ident : IdentFields) (setup : SetupFields) (number : ℕ) (previous next : Bool) (left : List Bool) → AreHeaders ident setup → number < length setup.modes
      → AreSmall (block_by_mode tables (sizes_in ident) setup number previous next left)
  unfolding block_by_mode
  mode_small ident setup number previous next left is lt =
      let mode = get_or setup.modes number no_mode in
      let mapping = get_or setup.mappings mode.mapping no_mapping in
      let size = size_of ident.short ident.long mode.long in
      let whole = mapping_there ident setup number is lt in
      let within = subst (λ n. All (IsCoupling n) mapping.couplings) (sym whole.all_channels) whole.couplings in
      let parts = packet_parts setup mapping (size / 2) left in
      let sized = parts_sized setup mapping (size / 2) left whole.mux within in
      all_small tables are (window_form ident.short mode.long previous next size) (length mapping.mux) (size / 2) parts.0 parts.1 sized.0 (few_of ident setup mode.long is)

  read_small : (ident : IdentFields) (setup : SetupFields) (read : Result (PacketHead × List Bool) (Unit {0})) → AreHeaders ident setup
      → ((number : ℕ) (previous next : Bool) (rest : List Bool) → read ≡ Ok (Block number previous next, rest) → number < length setup.modes)
      → AreSmall (block_by_head tables (sizes_in ident) setup read)
  read_small ident setup (Ok (Block number previous next, rest)) is below = mode_small ident setup number previous next rest is (below number previous next rest refl)
  read_small ident setup (Ok (Skip, rest)) is below = none_small
  read_small ident setup (Ok (Bad, rest)) is below = none_small
  read_small ident setup (Err e) is below = none_small

  packet_small : (link : FilmLink) (bytes : List ℕ) → IsLink link → AreSmall (block_in_link tables link bytes)
  unfolding packet_block
  packet_small link bytes is =
      let flags = block_flags link.setup in
      let left = drop 1 (bits_of bytes) in
      let counted : length flags ≡ length link.setup.modes = length-map link.setup.modes (λ (m : Mode). m.long) in
      read_small link.ident link.setup (block_head_at flags left) is (λ number previous next rest e. omega (arith, counted, mode_there flags number previous next left rest e))

  found_small : (bytes : List ℕ) (links : List FilmLink) (number : ℕ) → All IsLink links → AreSmall (option_map_or (λ (link : FilmLink). block_in_link tables link bytes) (slice_get links number) [])
  found_small bytes [] number all = none_small
  found_small bytes (link ∷ links) zero all = packet_small link bytes (All-head IsLink link links all)
  found_small bytes (link ∷ links) (suc number) all = found_small bytes links number (All-tail IsLink link links all)

  at_small : (links : List FilmLink) (packets : List BlockPacket) (k : ℕ) → All IsLink links → AreSmall (option_map_or (block_of_packet tables links) (slice_get packets k) [])
  at_small links [] k all = none_small
  at_small links (p ∷ packets) zero all = found_small p.bytes links p.link all
  at_small links (p ∷ packets) (suc k) all = at_small links packets k all

pub blocks_are_small : BlocksAreSmall
unfolding film_block
blocks_are_small = λ tables links k are all. at_small tables are links (block_packets links) k all
