use Rattle.std.proofs.Common.{arith}
use Rattle.model_ogg.proofs.PageCount.{pages_within}
use Rattle.test_player.proofs.runs.library_example.rates.Goals as goal

pub links-requires-clause-few : goal.links-requires-clause-few
links-requires-clause-few c = rw (c.deref.ensures.value, c.in_ok-pages.ensures.value) (omega (arith, pages_within c.args.film.now, c.requires))
