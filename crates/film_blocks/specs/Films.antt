-- What the private parts of a film that was opened keep.
use Rattle.std.specs.Prelude.{◌≡◌, ℕ, ◌≤◌, List, length, All}
use Rattle.model_ogg.specs.declared.link.TheConstants.{MOST_LINKS}
use Rattle.model_line.specs.Index.{Indexed, all_behind}
use Rattle.model_line.specs.PacketRows.{sized_links}
use Rattle.film_blocks.specs.declared.held.HeldLink.{HeldLink}
use Rattle.film_blocks.specs.Held.{links_in, IsHeld}
use Rattle.film_blocks.specs.Ends.{ends_from}

pub record IsFilm (bytes : List ℕ) (held : List HeldLink) (ends : List ℕ) (index : Indexed)
    : Type 0 where
  pub held_right : All (IsHeld bytes) held
  pub few : length held ≤ MOST_LINKS
  pub links : length index.links ≡ length held
  pub ends_right : ends ≡ ends_from 0 (sized_links (links_in bytes held))
  pub blocks : index.blocks ≡ all_behind 0 (sized_links (links_in bytes held))
