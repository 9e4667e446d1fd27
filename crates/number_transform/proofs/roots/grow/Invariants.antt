use Rattle.std.proofs.Common.{◌≡◌, ◌++◌, take, length}
use Rattle.number_transform.specs.Roots.{scaled}
use Rattle.number_transform.proofs.roots.grow.Given as goal

abbrev pub invariant-loop-k : goal.invariant-loop-k
invariant-loop-k l = record {
  so_far : l.table.items ≡ l.fn.table.items ++ scaled l.stem (take l.k l.fn.table.items);
  end : l.k-end ≡ length l.fn.table.items;
}
