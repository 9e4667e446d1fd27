use Rattle.std.proofs.Common.{[], refl}
use Rattle.cursor.proofs.CursorStates.{no_patch}
use Rattle.cursor.proofs.position.Cursor.at.Goals as goal

pub returns-clause-position : goal.returns-clause-position
returns-clause-position c = no_patch c.args.index.now _ refl (c.item_behind.ensures.position [])
