-- What a mode of a setup names, and the block of a mode from its parts.
use Rattle.std.proofs.Common.{◌≡◌, ℕ, ◌*◌, ◌/◌, ◌<◌, ◌≤◌, ℤ, Bool, true, false, List, [], ◌∷◌, length, map, take, drop, get_or, Option, Some, Result, Ok, Err, refl, ap, sym, ◌∙◌, arith, subst}
use Rattle.std.specs.Prelude.{slice_get, option_and_then, IfOk}
use Rattle.std.specs.List.{All}
use Rattle.std.proofs.lemmas.List.{get_or-map, length-take, length-drop}
use Rattle.std.proofs.lemmas.List.Elements.{All-get_or}
use Rattle.std.proofs.lemmas.Option.{slice_get-get_or, get_or_from_slice_get}
use Rattle.model_setup.specs.HeaderPackets.{IsBlockSize}
use Rattle.model_setup.specs.SetupPacket.{Mapping, Mode, SetupFields, IsMapping, IsSetup}
use Rattle.model_synthesis.specs.Tables.{ConstantTables}
use Rattle.model_line.specs.Blocks.{left_half, right_half}
use Rattle.model_line.specs.Origins.{size_of}
use Rattle.model_block.specs.declared.sizes.BlockSizes.{BlockSizes}
use Rattle.model_block.specs.PacketBlocks.{no_mode, no_mapping, packet_parts, all_values, block_by_mode}
use Rattle.model_synthesis.proofs.BlockSizes.{block_size_even}
use Rattle.model_setup.specs.AudioHead.{long_flags_of}
use Rattle.setup_header.specs.Setups.{mapping_of}
use Rattle.block_decoding.specs.declared.channels.HalvedBlock.{HalvedBlock}
use Rattle.block_decoding.specs.Setups.{AreSizes}
use Rattle.block_decoding.specs.Shapes.{form_of, IsShape, AreHalves, IsHalved}

-- ---- what the mode of a number names

module _ (setup : SetupFields) (number : ℕ) (there : number < length setup.modes) where
  abbrev mode : Mode
  mode = get_or setup.modes number no_mode

  pub long_is : (long_flags : List Bool) (place : ℕ) → long_flags ≡ long_flags_of setup.modes → place ≡ number → get_or long_flags place false ≡ mode.long
  long_is long_flags place flags at =
      ap (λ f. get_or f place false) flags ∙ (ap (λ k. get_or (long_flags_of setup.modes) k false) at
      ∙ get_or-map (λ (m : Mode). m.long) setup.modes number no_mode false there)

  pub mapping_is : (mapping : Mapping) → mapping_of setup number ≡ Some mapping → get_or setup.mappings mode.mapping no_mapping ≡ mapping
  mapping_is mapping is =
      let at_mode : mapping_of setup number ≡ slice_get setup.mappings mode.mapping =
      ap (option_and_then (λ (m : Mode). slice_get setup.mappings m.mapping)) (slice_get-get_or setup.modes number no_mode there) in
      get_or_from_slice_get setup.mappings mode.mapping mapping no_mapping (sym at_mode ∙ is)

  pub mapping_in : (channels : ℕ) (mapping : Mapping) → IsSetup channels setup → mapping_of setup number ≡ Some mapping
      → IsMapping channels (length setup.floors) (length setup.residues) mapping
  mapping_in channels mapping whole is =
      let named : mode.mapping < length setup.mappings = All-get_or (λ (m : Mode). m.mapping < length setup.mappings) setup.modes number no_mode there whole.modes in
      subst (IsMapping channels (length setup.floors) (length setup.residues)) (mapping_is mapping is)
      (All-get_or (IsMapping channels (length setup.floors) (length setup.residues)) setup.mappings mode.mapping no_mapping named whole.mappings)

  -- the values of the parts of a block are the block
  pub block_is : (tables : ConstantTables) (sizes : BlockSizes) (previous next long : Bool) (left : List Bool) (mapping : Mapping) (bins : ℕ) (residues residues' : List (List ℤ)) (curves curves' : List (Option (List ℕ)))
      → long ≡ mode.long → get_or setup.mappings mode.mapping no_mapping ≡ mapping
      → bins ≡ size_of sizes.short sizes.long long / 2 → 2 * bins ≡ size_of sizes.short sizes.long long
      → (residues', curves') ≡ packet_parts setup mapping bins left
      → residues ≡ residues' → curves ≡ curves'
      → all_values tables (form_of (record { short = sizes.short; long = long; previous = previous; next = next }) (2 * bins)) residues curves ≡ block_by_mode tables sizes setup number previous next left
  unfolding block_by_mode
  block_is tables sizes previous next long left mapping bins residues residues' curves curves' l m half twice parts r c =
      rw (← l, m, ← half, ← parts, ← r, ← c, twice) refl

  -- halves of the channels of a mapping are halves of the channels of its setup
  pub halved_is : {E : Type 0} (made : Result HalvedBlock E) (mapping : Mapping) (count bins : ℕ) → mapping_of setup number ≡ Some mapping → count ≡ length mapping.mux → IsBlockSize (2 * bins)
      → IfOk made (AreHalves count bins) → IfOk made (λ block. (channels : ℕ) → IsSetup channels setup → IsHalved channels block)
  halved_is (Ok block) mapping count bins is count-is size halves = λ channels whole. record {
    size = bins;
    is_block_size = size;
    halves = subst (λ n. AreHalves n bins block) (count-is ∙ (mapping_in channels mapping whole is).all_channels) halves;
  }
  halved_is (Err e) mapping count bins is count-is size halves = tt

-- ---- sizes

-- a block of a link has twice as many values as bins
pub twice_bins : (size : ℕ) → IsBlockSize size → 2 * (size / 2) ≡ size
twice_bins size is = omega (arith, block_size_even size is)

pub shape_is : (sizes : BlockSizes) (previous next long : Bool) (bins : ℕ) → AreSizes sizes → bins ≡ size_of sizes.short sizes.long long / 2
    → (2 * bins ≡ size_of sizes.short sizes.long long) × IsShape (record { short = sizes.short; long = long; previous = previous; next = next }) bins
shape_is sizes previous next true bins are half =
    let e : 2 * bins ≡ sizes.long = ap (λ n. 2 * n) half ∙ twice_bins sizes.long are.long in (
      e,
      record {
        short = are.short;
        size = subst IsBlockSize (sym e) are.long;
        if_short = tt;
        if_long = subst (λ n. sizes.short ≤ n) (sym e) are.in_order;
      },
    )
shape_is sizes previous next false bins are half =
    let e : 2 * bins ≡ sizes.short = ap (λ n. 2 * n) half ∙ twice_bins sizes.short are.short in (
      e,
      record {
        short = are.short;
        size = subst IsBlockSize (sym e) are.short;
        if_short = e;
        if_long = tt;
      },
    )

-- ---- halves

half_of : (bins : ℕ) (values : List ℤ) → length (take bins values) ≡ bins → length (drop bins values) ≡ bins → length values / 2 ≡ bins
half_of bins values first second = omega (arith, length-take bins values, length-drop bins values, first, second)

-- all values have so many in each half
module _ (bins : ℕ) where
  abbrev IsHalfLine : List ℤ → Type 0
  IsHalfLine values = length values ≡ bins

  lefts_are : (all : List (List ℤ)) → All IsHalfLine (map (take bins) all) → All IsHalfLine (map (drop bins) all) → map (take bins) all ≡ left_half all
  unfolding left_half
  lefts_are [] firsts seconds = refl
  lefts_are (values ∷ others) firsts seconds =
      ap (λ n. map (take n) (values ∷ others)) (sym (half_of bins values (firsts 0 [] (omega arith)) (seconds 0 [] (omega arith))))

  rights_are : (all : List (List ℤ)) → All IsHalfLine (map (take bins) all) → All IsHalfLine (map (drop bins) all) → map (drop bins) all ≡ right_half all
  unfolding right_half
  rights_are [] firsts seconds = refl
  rights_are (values ∷ others) firsts seconds =
      ap (λ n. map (drop n) (values ∷ others)) (sym (half_of bins values (firsts 0 [] (omega arith)) (seconds 0 [] (omega arith))))

  -- what was made is the halves of the block, where its values are the block's
  module _ {E : Type 0} (all whole : List (List ℤ)) (channels : ℕ) (is : all ≡ whole) where
    pub left_is : (made : Result HalvedBlock E) → IfOk made (λ block. block.left ≡ map (take bins) all) → IfOk made (λ block. block.right ≡ map (drop bins) all)
        → IfOk made (AreHalves channels bins) → IfOk made (λ block. block.left ≡ left_half whole)
    left_is (Ok block) left right small =
        left ∙ (lefts_are all (subst (All IsHalfLine) left small.left.sizes) (subst (All IsHalfLine) right small.right.sizes) ∙ ap left_half is)
    left_is (Err e) left right small = tt

    pub right_is : (made : Result HalvedBlock E) → IfOk made (λ block. block.left ≡ map (take bins) all) → IfOk made (λ block. block.right ≡ map (drop bins) all)
        → IfOk made (AreHalves channels bins) → IfOk made (λ block. block.right ≡ right_half whole)
    right_is (Ok block) left right small =
        right ∙ (rights_are all (subst (All IsHalfLine) left small.left.sizes) (subst (All IsHalfLine) right small.right.sizes) ∙ ap right_half is)
    right_is (Err e) left right small = tt
