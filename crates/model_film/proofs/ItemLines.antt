-- The line of a film from single halves of its blocks.
use Rattle.std.proofs.Common.{◌≡◌, ℕ, ◌+◌, List, [], ◌∷◌, refl, ap, sym, ◌∙◌}
use Rattle.model_line.specs.declared.item.Item.{Item}
use Rattle.model_line.specs.declared.item.Item.TheVariants as variants
use Rattle.model_line.specs.Origins.{item_frames, line_of, line_origins}
use Rattle.model_line.specs.Blocks.{Values, overlap, left_half, right_half, block_at}
use Rattle.model_line.proofs.BlockLines.{line_by_halves}
use Rattle.model_block.specs.FilmBlocks.{film_block}
use Rattle.model_film.specs.FilmLines.{decoded_links, film_line}
use Rattle.model_film.specs.Laws.{LineByItems}
use Rattle.model_film.proofs.FilmBlocks.{block_is, film_sizes, film_even}

item_same : (blocks other : ℕ → Values) → ((k : ℕ) → blocks k ≡ other k) → (x : Item)
    → item_frames overlap (λ k. right_half (blocks k)) (λ k. left_half (blocks k)) x ≡ item_frames overlap (λ k. right_half (other k)) (λ k. left_half (other k)) x
item_same blocks other same (variants.Span s) = rw (same s.block, same (s.block + 1)) refl
item_same blocks other same (variants.Gap link kind) = refl

-- the same blocks give the same line
line_same : (blocks other : ℕ → Values) → ((k : ℕ) → blocks k ≡ other k) → (xs : List Item)
    → line_of overlap (λ k. right_half (blocks k)) (λ k. left_half (blocks k)) xs ≡ line_of overlap (λ k. right_half (other k)) (λ k. left_half (other k)) xs
unfolding line_of
line_same blocks other same [] = refl
line_same blocks other same (x ∷ xs) = rw (item_same blocks other same x, line_same blocks other same xs) refl

pub line_by_items : LineByItems
unfolding film_line
line_by_items = λ tables links items are lists.
    line_same (film_block tables links) (block_at (decoded_links tables links)) (block_is tables links) items
    ∙ line_by_halves (decoded_links tables links) items (film_even tables links are) (lists ∙ ap line_origins (sym (film_sizes tables links are)))
