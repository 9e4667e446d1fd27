use Rattle.model_film.proofs.ItemLines.{line_by_items}
use Rattle.model_film.proofs.laws.line_by_items.Goals as goal

pub returns : goal.returns
returns c = line_by_items
