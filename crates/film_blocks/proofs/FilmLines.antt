-- What the index of an accepted film says of its line.
use Rattle.std.proofs.Common.{◌≡◌, ℕ, List, map, ap, ◌∙◌}
use Rattle.std.specs.Prelude.{Ok}
use Rattle.model_synthesis.specs.Tables.{ConstantTables}
use Rattle.model_line.specs.declared.row.LinkRows.{LinkRows}
use Rattle.model_line.specs.Acceptance.{film_of}
use Rattle.model_line.specs.Origins.{entries_of, line_origins, listed}
use Rattle.model_line.specs.PacketRows.{sized_links}
use Rattle.model_line.specs.Index.{Indexed, Indexes}
use Rattle.model_film.specs.FilmLines.{film_line}
use Rattle.model_film.specs.Laws.{line_of_items, Agrees}
use Rattle.model_film.proofs.Accepted.{links_of_films}
use Rattle.model_film.proofs.ItemLines.{line_by_items}
use Rattle.model_film.proofs.LineCounts.{counts_agree}
use Rattle.film_blocks.specs.declared.held.HeldLink.{HeldLink}
use Rattle.film_blocks.specs.Held.{links_in}
use Rattle.film_blocks.specs.Reads.{AreRead}

lists_line : (bytes : List ℕ) (held : List HeldLink) (rows : List LinkRows) (index : Indexed) → AreRead bytes held rows → Indexes rows index
    → listed index.items ≡ line_origins (sized_links (links_in bytes held))
lists_line bytes held rows index read h = h.origins ∙ ap (λ (rs : List LinkRows). line_origins (map entries_of rs)) read.rows_right

pub line_by_read : (tables : ConstantTables) (bytes : List ℕ) (held : List HeldLink) (rows : List LinkRows) (index : Indexed) → film_of bytes ≡ Ok (links_in bytes held) → AreRead bytes held rows → Indexes rows index
    → line_of_items tables (links_in bytes held) index.items ≡ film_line tables (links_in bytes held)
line_by_read tables bytes held rows index accepted read h =
    line_by_items tables (links_in bytes held) index.items (links_of_films bytes (links_in bytes held) accepted) (lists_line bytes held rows index read h)

pub agrees_by_read : (tables : ConstantTables) (bytes : List ℕ) (held : List HeldLink) (rows : List LinkRows) (index : Indexed) → film_of bytes ≡ Ok (links_in bytes held) → AreRead bytes held rows → Indexes rows index
    → Agrees tables (links_in bytes held) index.items
agrees_by_read tables bytes held rows index accepted read h =
    counts_agree tables (links_in bytes held) index.items (links_of_films bytes (links_in bytes held) accepted) (lists_line bytes held rows index read h)
