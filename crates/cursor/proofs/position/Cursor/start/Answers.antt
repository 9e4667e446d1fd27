use Rattle.model_cursor.proofs.Standing.{state_at_0}
use Rattle.cursor.proofs.CursorStates.{starts}
use Rattle.cursor.proofs.position.Cursor.start.Goals as goal

pub returns-clause-state : goal.returns-clause-state
returns-clause-state c = state_at_0

pub returns-clause-position : goal.returns-clause-position
returns-clause-position c = starts
