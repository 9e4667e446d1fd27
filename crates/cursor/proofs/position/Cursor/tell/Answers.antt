use Rattle.std.proofs.Common.{◌∙◌, ap}
use Rattle.model_cursor.specs.Positions.{Position}
use Rattle.cursor.proofs.Items.{told_is}
use Rattle.cursor.proofs.position.Cursor.tell.Goals as goal

pub returns : goal.returns
returns c = λ index is. ap (λ (p : Position). p.told) c.self.view_is ∙ told_is index.items c.args.self.now is.position
