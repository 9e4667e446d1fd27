-- The blocks of a film are like themselves: under constants as every accepted file has them, all
-- their values are within the limit.
use Rattle.std.proofs.Common.{◌/◌, ℤ, List, take, drop, refl}
use Rattle.std.specs.List.{All, slice_index_or}
use Rattle.std.proofs.lemmas.List.Elements.{All-map, All-take, All-drop}
use Rattle.model_synthesis.specs.Transform.{IsBlockValue}
use Rattle.model_line.specs.Blocks.{len_of, left_half, right_half}
use Rattle.model_block.specs.FilmBlocks.{film_block}
use Rattle.model_film.proofs.SmallBlocks.{blocks_are_small}
use Rattle.film_blocks.specs.KeyedBlocks.{keyed_block}
use Rattle.block_cache.specs.FilmMeanings.{AreLikeBlocks}

abbrev AreSmall : List (List ℤ) → Type 0
AreSmall block = All (All IsBlockValue) block

module _ (block : List (List ℤ)) (small : AreSmall block) where
  left_small : AreSmall (left_half block)
  unfolding left_half
  left_small =
      let half = len_of block / 2 in
      All-map (All IsBlockValue) (take half) block
      (λ k d lt. All-take IsBlockValue half (slice_index_or block k d) (small k d lt))

  right_small : AreSmall (right_half block)
  unfolding right_half
  right_small =
      let half = len_of block / 2 in
      All-map (All IsBlockValue) (drop half) block
      (λ k d lt. All-drop IsBlockValue half (slice_index_or block k d) (small k d lt))

pub like_blocks : AreLikeBlocks keyed_block
unfolding keyed_block
like_blocks = λ tables links k are all within.
    let block = film_block tables links k in
    let small = blocks_are_small tables links k are all in
    record {
      key = refl;
      left = record { sizes = refl; small = left_small block small };
      right = record { sizes = refl; small = right_small block small };
    }
