use Rattle.model_cursor.proofs.SpliceParts.{laps_go_where_seeks_go}
use Rattle.model_cursor.proofs.laws.laps_go_where_seeks_go.Goals as goal

pub returns : goal.returns
returns c = laps_go_where_seeks_go
