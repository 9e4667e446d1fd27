use Rattle.std.proofs.Common.{◌≡◌, ◌+◌, map, take}
use Rattle.model_cursor.specs.declared.need.Need.{Need}
use Rattle.cursor.proofs.blocks.fetch_all.Given as goal

abbrev pub invariant-loop-need : goal.invariant-loop-need
invariant-loop-need g l = record {
  halves : l.halves.items ≡ map (g.B.Blocks.half_of l.fn.blocks) (take l.need-index l.needs);
  count : g.B.Blocks.count l.blocks ≡ g.B.Blocks.count l.fn.blocks;
  same : (any : Need) → g.B.Blocks.half_of l.blocks any ≡ g.B.Blocks.half_of l.fn.blocks any;
  fetched : g.B.Blocks.fetches l.blocks ≡ g.B.Blocks.fetches l.fn.blocks + l.need-index;
}
