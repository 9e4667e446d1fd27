use Rattle.std.proofs.Common.{refl, ap}
use Rattle.model_line.specs.Origins.{listed}
use Rattle.film_index.proofs.ListSteps.{listed_empty}
use Rattle.film_index.proofs.listing.Listing.with_capacity.Goals as goal

pub returns-clause-right : goal.returns-clause-right
returns-clause-right c = listed_empty _ _ 0 0 c.in_ok-items.ensures.items c.in_ok-starts.ensures.items refl refl

pub returns-clause-listed : goal.returns-clause-listed
unfolding listed
returns-clause-listed c = ap listed c.in_ok-items.ensures.items
