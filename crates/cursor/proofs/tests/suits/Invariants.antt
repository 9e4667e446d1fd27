use Rattle.std.proofs.Common.{pos, [], ◌∷◌, take}
use Rattle.std.specs.Prelude.{replicate}
use Rattle.std.specs.List.{All}
use Rattle.model_cursor.specs.Sources.{ItemSuits}
use Rattle.cursor.proofs.tests.suits.Given as goal

abbrev pub invariant-loop-item : goal.invariant-loop-item
invariant-loop-item l = All (ItemSuits l.index.links (λ need. replicate 32 (pos need.block) ∷ [])) (take l.item-index l.items)
