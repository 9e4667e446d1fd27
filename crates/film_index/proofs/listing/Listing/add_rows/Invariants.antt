use Rattle.std.proofs.Common.{◌≡◌, ◌+◌, ◌-◌, ◌*◌, ◌<◌, ◌≤◌, ◌++◌, length, map}
use Rattle.std.specs.Prelude.{IfSome}
use Rattle.model_line.specs.Trim.{trimmed, AtEdge}
use Rattle.model_line.specs.Lines.{link_line}
use Rattle.model_line.specs.Origins.{frame_numbers, entry_of, number_behind, numbered_entries, origins, listed}
use Rattle.film_index.specs.Bounds.{most_overlap, FitsSize}
use Rattle.film_index.specs.Listings.{IsListing, HasGrown}
use Rattle.film_index.proofs.RowSteps.{items_behind}
use Rattle.film_index.proofs.listing.Listing.add_rows.Given as goal

abbrev pub invariant-loop-row : goal.invariant-loop-row
invariant-loop-row l = record {
  can : (goal.iterator-loop-row).can_next l.row-iterator;
  finite : (goal.iterator-loop-row).is_finite l.row-iterator;
  listed : listed l.self.lists.items.items ++ trimmed l.link.cuts l.walk.frames (items_behind l.number l.fn.sizes.short l.fn.sizes.long l.counts.blocks l.walk.previous l.row-iterator)
      ≡ listed l.fn.self.lists.items.items ++ link_line l.number origins (numbered_entries l.fn.self.counts.blocks (map (entry_of l.fn.sizes.short l.fn.sizes.long) l.rows));
  blocks : number_behind l.counts.blocks (map (entry_of l.fn.sizes.short l.fn.sizes.long) l.row-iterator) ≡ number_behind l.fn.self.counts.blocks (map (entry_of l.fn.sizes.short l.fn.sizes.long) l.rows);
  right : IsListing (l.counts.blocks - 1) l.self.lists l.counts;
  within : length l.row-iterator ≤ length l.rows;
  grown : HasGrown l.fn.self.counts l.counts (length l.rows - length l.row-iterator);
  edge : AtEdge frame_numbers l.link.cuts.end.to l.walk.frames l.walk.previous (map (entry_of l.fn.sizes.short l.fn.sizes.long) l.row-iterator);
  fits : IfSome l.walk.previous FitsSize;
  some : IfSome l.walk.previous (λ _. 0 < l.counts.blocks);
  frames : l.walk.frames + most_overlap * length l.row-iterator ≤ most_overlap * length l.rows;
}
