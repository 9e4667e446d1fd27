use Rattle.std.proofs.Common.{refl, arith}
use Rattle.film_index.proofs.ListSteps.{listed_span, listed-push}
use Rattle.film_index.proofs.listing.Lists.add_span.Goals as goal

pub returns-in_ok-push-clause-right : goal.returns-in_ok-push-clause-right
returns-in_ok-push-clause-right c = rw c.from.ensures (listed_span _ _ _ _ _ _ _ _ c.requires.right (omega (arith, c.requires.some c.if-from-to.true)) c.if-from-to.true refl c.in_ok-push.ensures.items c.in_ok-push.ensures.starts)

pub returns-in_ok-push-clause-listed : goal.returns-in_ok-push-clause-listed
returns-in_ok-push-clause-listed c = rw c.in_ok-push.ensures.items (listed-push _ _)
