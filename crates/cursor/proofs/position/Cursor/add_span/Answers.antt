use Rattle.std.proofs.Common.{arith, ap}
use Rattle.model_cursor.specs.Positions.{Position}
use Rattle.cursor.proofs.Inside.{inside}
use Rattle.cursor.proofs.position.Cursor.add_span.Goals as goal

pub overflow_sub-skip : goal.overflow_sub-skip
overflow_sub-skip c = let is = inside _ _ _ c.items-items.ensures.right c.requires.position c.requires.here in omega (arith, is.from, ap (λ (p : Position). p.told) c.self.view_is)

pub overflow_cast-skip : goal.overflow_cast-skip
overflow_cast-skip c = let is = inside _ _ _ c.items-items.ensures.right c.requires.position c.requires.here in omega (arith, is.skip, ap (λ (p : Position). p.told) c.self.view_is)

pub add_run-requires-clause-skip : goal.add_run-requires-clause-skip
add_run-requires-clause-skip c = let is = inside _ _ _ c.items-items.ensures.right c.requires.position c.requires.here in omega (arith, is.skip, ap (λ (p : Position). p.told) c.self.view_is)
