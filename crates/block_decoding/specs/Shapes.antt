-- The window of a block and its halves, as the program names them.
use Rattle.std.specs.Prelude.{◌≡◌, ℕ, ◌*◌, ◌≤◌, ℤ, List, length}
use Rattle.std.specs.List.{All}
use Rattle.std.specs.Bool.{OnTrue, OnFalse}
use Rattle.model_setup.specs.HeaderPackets.{IsBlockSize}
use Rattle.model_synthesis.specs.declared.window_form.WindowForm.{WindowForm}
use Rattle.model_synthesis.specs.Transform.{IsBlockValue}
use Rattle.model_synthesis.specs.Windows.{window_form}
use Rattle.block_decoding.specs.declared.channels.Shape.{Shape}
use Rattle.block_decoding.specs.declared.channels.HalvedBlock.{HalvedBlock}

-- the form of the window of a block of this size
abbrev pub form_of : Shape → ℕ → WindowForm
form_of shape size = window_form shape.short shape.long shape.previous shape.next size

-- a block of so many bins may have a window of this shape
pub record IsShape (shape : Shape) (bins : ℕ) : Type 0 where
  pub short : IsBlockSize shape.short
  pub size : IsBlockSize (2 * bins)
  pub if_short : OnFalse shape.long (2 * bins ≡ shape.short)
  pub if_long : OnTrue shape.long (shape.short ≤ 2 * bins)

-- a half of a block of so many channels, each with so many values within their limit
pub record IsHalf (channels size : ℕ) (half : List (List ℤ)) : Type 0 where
  pub count : length half ≡ channels
  pub sizes : All (λ values. length values ≡ size) half
  pub small : All (All IsBlockValue) half

pub record AreHalves (channels size : ℕ) (block : HalvedBlock) : Type 0 where
  pub left : IsHalf channels size block.left
  pub right : IsHalf channels size block.right

-- the halves of a block of so many channels, of a size that a block may have
pub record IsHalved (channels : ℕ) (block : HalvedBlock) : Type 0 where
  pub size : ℕ
  pub is_block_size : IsBlockSize (2 * size)
  pub halves : AreHalves channels size block
