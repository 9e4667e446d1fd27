use Rattle.std.proofs.Common.{◌≡◌, ◌+◌, ◌≤◌, length, drop}
use Rattle.model_line.specs.declared.row.TheConstants.{MOST_ENTRIES}
use Rattle.model_line.specs.Acceptance.{links_of}
use Rattle.film_index.specs.Bounds.{rows_in}
use Rattle.film_blocks.specs.Held.{links_in}
use Rattle.film_blocks.specs.Reads.{AreRead}
use Rattle.film_blocks.proofs.LinkSteps.{after_links}
use Rattle.film_blocks.proofs.links.read_links.Given as goal

abbrev pub invariant-loop-i : goal.invariant-loop-i
invariant-loop-i l = record {
  links : after_links (links_in l.bytes l.held.items) (links_of l.bytes l.pages l.i l.left (drop l.i l.links)) ≡ links_of l.bytes l.pages 0 MOST_ENTRIES l.links;
  read : AreRead l.bytes l.held.items l.rows.items;
  room : rows_in l.rows.items + l.left ≤ MOST_ENTRIES;
  count : length l.rows.items ≡ l.i;
}
