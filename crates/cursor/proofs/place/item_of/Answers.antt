use Rattle.model_line.proofs.IndexLaws.{starts_never_fall}
use Rattle.cursor.proofs.Items.{found, none_found}
use Rattle.cursor.proofs.place.item_of.Goals as goal

pub last_start-requires-clause-rises : goal.last_start-requires-clause-rises
last_start-requires-clause-rises c = rw c.starts.ensures (starts_never_fall c.args.index.now.items)

pub unreachable-requires : goal.unreachable-requires
unreachable-requires c = none_found _ _ _ c.starts.ensures c.requires c.in-None.ensures

pub returns-clause-within : goal.returns-clause-within
returns-clause-within c = (found _ _ _ _ c.starts.ensures c.requires c.in-Some.ensures).within

pub returns-clause-from : goal.returns-clause-from
returns-clause-from c = (found _ _ _ _ c.starts.ensures c.requires c.in-Some.ensures).from

pub returns-clause-before : goal.returns-clause-before
returns-clause-before c = (found _ _ _ _ c.starts.ensures c.requires c.in-Some.ensures).before
