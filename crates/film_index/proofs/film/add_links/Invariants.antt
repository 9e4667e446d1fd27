use Rattle.std.proofs.Common.{◌≡◌, ◌-◌, ◌++◌, map, drop}
use Rattle.model_line.specs.Lines.{line}
use Rattle.model_line.specs.Origins.{entries_of, numbered_links, origins, listed}
use Rattle.model_line.specs.Index.{facts_from, all_behind}
use Rattle.film_index.specs.Bounds.{rows_in}
use Rattle.film_index.specs.Listings.{IsListing, HasRoom}
use Rattle.film_index.proofs.film.add_links.Given as goal

abbrev pub invariant-loop-number : goal.invariant-loop-number
invariant-loop-number l = record {
  listed : listed l.listing.lists.items.items ++ line origins l.number (numbered_links l.listing.counts.blocks (map entries_of (drop l.number l.links))) ≡ listed l.fn.listing.lists.items.items ++ line origins 0 (numbered_links l.fn.listing.counts.blocks (map entries_of l.links));
  facts : l.facts.items ++ facts_from l.number (drop l.number l.links) ≡ facts_from 0 l.links;
  blocks : all_behind l.listing.counts.blocks (map entries_of (drop l.number l.links)) ≡ all_behind l.fn.listing.counts.blocks (map entries_of l.links);
  right : IsListing (l.listing.counts.blocks - 1) l.listing.lists l.listing.counts;
  room : HasRoom l.listing.counts (rows_in (drop l.number l.links));
}
