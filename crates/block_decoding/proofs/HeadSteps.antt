-- The head of the packet of a block, and the block by it.
use Rattle.std.proofs.Common.{◌≡◌, ℕ, ◌-◌, ◌<◌, List, length, drop, Option, Some, None, Result, Ok, Err, Bool, true, false, refl, sym, ap, ◌∙◌, subst}
use Rattle.std.specs.Prelude.{nat_lt, slice_index_or}
use Rattle.std.proofs.lemmas.Bool.{ltb-true}
use Rattle.model_bits.specs.Bits.{bits_of, take_bits}
use Rattle.model_bits.specs.Reading.{then_read, or_end, give, require, ◌>>=◌, ◌>>◌}
use Rattle.model_setup.specs.declared.setup.PacketHead.TheVariants.{Block}
use Rattle.model_setup.specs.BookReading.{ilog}
use Rattle.model_setup.specs.AudioHead.{window_flags_at, block_head_at, or_bad, head_by_kind, head_of}
use Rattle.model_setup.specs.SetupPacket.{SetupFields}
use Rattle.model_synthesis.specs.Tables.{ConstantTables}
use Rattle.model_line.specs.PacketRows.{block_flags}
use Rattle.model_block.specs.declared.sizes.BlockSizes.{BlockSizes}
use Rattle.model_block.specs.PacketBlocks.{block_by_mode, block_by_head, packet_block}
use Rattle.block_decoding.specs.Setups.{IsBlockHead}

-- ---- the mode of a block is there

with_windows : (m n : ℕ) (p q : Bool) (rest : List Bool) (w : Result ((Bool × Bool) × List Bool) (Unit {0}))
    → then_read w (λ f. give (Block m f.0 f.1)) ≡ Ok (Block n p q, rest) → m ≡ n
with_windows m n p q rest (Ok w) e = let h : Block m w.0.0 w.0.1 ≡ Block n p q = ap or_bad e in cc
with_windows m n p q rest (Err x) e = cc

with_mode : (flags : List Bool) (m n : ℕ) (p q : Bool) (left rest : List Bool) (below : Bool) → nat_lt m (length flags) ≡ below
    → then_read (require below tt left) (λ _. window_flags_at (slice_index_or flags m false) >>= λ f. give (Block m f.0 f.1)) ≡ Ok (Block n p q, rest)
    → n < length flags
with_mode flags m n p q left rest true lt e =
    subst (λ k. k < length flags) (with_windows m n p q rest (window_flags_at (slice_index_or flags m false) left) e) (ltb-true m (length flags) lt)
with_mode flags m n p q left rest false lt e = cc

with_number : (flags : List Bool) (n : ℕ) (p q : Bool) (rest : List Bool) (o : Option (ℕ × List Bool))
    → then_read (or_end tt o) (λ mode. require (nat_lt mode (length flags)) tt >> (window_flags_at (slice_index_or flags mode false) >>= λ f. give (Block mode f.0 f.1))) ≡ Ok (Block n p q, rest)
    → n < length flags
with_number flags n p q rest None e = cc
with_number flags n p q rest (Some read) e = with_mode flags read.0 n p q read.1 rest (nat_lt read.0 (length flags)) refl e

pub mode_there : (flags : List Bool) (n : ℕ) (p q : Bool) (left rest : List Bool) → block_head_at flags left ≡ Ok (Block n p q, rest) → n < length flags
unfolding block_head_at
mode_there flags n p q left rest e = with_number flags n p q rest (take_bits (ilog (length flags - 1)) left) e

-- ---- a packet, by its bits and the block flags of its setup

module _ (setup : SetupFields) (bytes : List ℕ) (flags left : List Bool) (flags-are : flags ≡ block_flags setup) (left-is : left ≡ bits_of bytes) where
  pub head_is : IsBlockHead (head_of (block_flags setup) bytes) → IsBlockHead (head_by_kind flags (take_bits 1 left))
  unfolding head_of
  head_is h =
      subst (λ f. IsBlockHead (head_by_kind f (take_bits 1 left))) (sym flags-are)
      (subst (λ l. IsBlockHead (head_by_kind (block_flags setup) (take_bits 1 l))) (sym left-is) h)

  pub packet_is : (tables : ConstantTables) (sizes : BlockSizes) (mode : ℕ) (previous next : Bool) (rest : List Bool)
      → block_head_at flags (drop 1 left) ≡ Ok (Block mode previous next, rest)
      → block_by_mode tables sizes setup mode previous next rest ≡ packet_block tables sizes setup bytes
  unfolding packet_block
  packet_is tables sizes mode previous next rest read =
      ap (block_by_head tables sizes setup) (sym read)
      ∙ (ap (λ f. block_by_head tables sizes setup (block_head_at f (drop 1 left))) flags-are
      ∙ ap (λ l. block_by_head tables sizes setup (block_head_at (block_flags setup) (drop 1 l))) left-is)
