use Rattle.std.proofs.Common.{◌≡◌, map, take}
use Rattle.ogg_packets.specs.Entries.{front_in}
use Rattle.film_blocks.proofs.rows.fronts.Given as goal

abbrev pub invariant-loop-entry : goal.invariant-loop-entry
invariant-loop-entry l = l.fronts.items ≡ map (front_in l.bytes) (take l.entry-index l.entries)
