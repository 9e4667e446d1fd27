use Rattle.floor_one.proofs.Meets.{meets}
use Rattle.floor_one.proofs.laws.curve_meets_points.Goals as goal

pub returns : goal.returns
returns c = meets
