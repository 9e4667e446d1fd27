-- What is kept of a film.
use Rattle.std.proofs.Common.{◌≡◌, ℕ, refl, sym, ap, ◌∙◌}
use Rattle.std.specs.Prelude.{List}
use Rattle.model_synthesis.specs.Tables.{ConstantTables}
use Rattle.model_line.specs.Acceptance.{FilmLink}
use Rattle.model_line.specs.Blocks.{left_half, right_half}
use Rattle.model_block.specs.FilmBlocks.{film_block}
use Rattle.film_blocks.specs.KeyedBlocks.{KeyedBlock, keyed_block}

key_is : (tables : ConstantTables) (links : List FilmLink) (k : ℕ) → (keyed_block tables links k).key ≡ k
unfolding keyed_block
key_is tables links k = refl

-- a block is known by its key
pub by_key : (tables : ConstantTables) (links : List FilmLink) (k : ℕ) (block : KeyedBlock) → block ≡ keyed_block tables links k → block ≡ keyed_block tables links block.key
by_key tables links k block e =
    e ∙ ap (keyed_block tables links) (sym (ap (λ (b : KeyedBlock). b.key) e ∙ key_is tables links k))

pub right_is : (tables : ConstantTables) (links : List FilmLink) (k : ℕ) (block : KeyedBlock) → block ≡ keyed_block tables links k → block.right ≡ right_half (film_block tables links k)
unfolding keyed_block
right_is tables links k block e = ap (λ (b : KeyedBlock). b.right) e

pub left_is : (tables : ConstantTables) (links : List FilmLink) (k : ℕ) (block : KeyedBlock) → block ≡ keyed_block tables links k → block.left ≡ left_half (film_block tables links k)
unfolding keyed_block
left_is tables links k block e = ap (λ (b : KeyedBlock). b.left) e
