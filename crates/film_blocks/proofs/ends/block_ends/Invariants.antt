use Rattle.std.proofs.Common.{◌≡◌, ◌+◌, ◌≤◌, ◌++◌, drop}
use Rattle.model_line.specs.declared.row.TheConstants.{MOST_ENTRIES}
use Rattle.film_blocks.specs.Held.{blocks_in, held_ends}
use Rattle.film_blocks.proofs.ends.block_ends.Given as goal

abbrev pub invariant-loop-link : goal.invariant-loop-link
invariant-loop-link l = record {
  ends : l.ends.items ++ held_ends l.end (drop l.link-index l.links) ≡ held_ends 0 l.links;
  room : l.end + blocks_in (drop l.link-index l.links) ≤ MOST_ENTRIES;
}
