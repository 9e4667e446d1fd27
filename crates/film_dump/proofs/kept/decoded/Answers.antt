use Rattle.film_dump.proofs.KeptBlocks.{by_key}
use Rattle.film_dump.proofs.kept.decoded.Goals as goal

pub returns-in_ok-block-in_default-clause-kept : goal.returns-in_ok-block-in_default-clause-kept
returns-in_ok-block-in_default-clause-kept c = record {
  setup = c.in_ok-setup-in_default.ensures;
  block = by_key _ _ _ _ c.in_ok-block-in_default.ensures.value;
}
