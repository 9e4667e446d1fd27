-- What reading links gives: what is kept of each, and its rows.
use Rattle.std.specs.Prelude.{◌≡◌, ℕ, List, map, All}
use Rattle.model_line.specs.declared.row.LinkRows.{LinkRows}
use Rattle.model_line.specs.PacketRows.{rows_of}
use Rattle.film_index.specs.Bounds.{FitsLink}
use Rattle.film_blocks.specs.declared.held.HeldLink.{HeldLink}
use Rattle.film_blocks.specs.Held.{link_in, links_in, IsHeld}

-- of one link
pub record IsRead (bytes : List ℕ) (held : HeldLink) (rows : LinkRows) : Type 0 where
  pub held_right : IsHeld bytes held
  pub rows_right : rows ≡ rows_of (link_in bytes held)
  pub fits : FitsLink rows

-- of all links of a film
pub record AreRead (bytes : List ℕ) (held : List HeldLink) (rows : List LinkRows) : Type 0 where
  pub held_right : All (IsHeld bytes) held
  pub rows_right : rows ≡ map rows_of (links_in bytes held)
  pub fits : All FitsLink rows
