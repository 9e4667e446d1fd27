use Rattle.std.proofs.Common.{◌-◌, ◌^◌, ◌≤◌}
use Rattle.codebooks.proofs.lookup.root.Given as goal

abbrev pub invariant-loop-root : goal.invariant-loop-root
invariant-loop-root l = record {
  holds : l.root ^ l.dimensions ≤ l.entries;
  within : l.root ≤ l.entries;
}

abbrev pub decreases-loop-root : goal.decreases-loop-root
decreases-loop-root l = l.entries - l.root
