use Rattle.model_cursor.proofs.ReadLaws.{runs_go_on_behind_patches}
use Rattle.model_cursor.proofs.laws.runs_go_on_behind_patches.Goals as goal

pub returns : goal.returns
returns c = runs_go_on_behind_patches
