use Rattle.std.proofs.Common.{ap, arith, length, map}
use Rattle.std.proofs.lemmas.List.{length-map}
use Rattle.model_line.specs.Origins.{entries_of}
use Rattle.model_line.proofs.FactsAt.{length-facts}
use Rattle.film_index.proofs.ItemLinks.{links_of_items}
use Rattle.film_index.proofs.ListSteps.{all_within}
use Rattle.film_index.proofs.film.Index.build.Goals as goal

pub invariant_of-result : goal.invariant_of-result
invariant_of-result c = (
  c.in_ok-facts.ensures.right.starts,
  c.in_ok-facts.ensures.right.total,
  omega (arith, ap length c.in_ok-facts.ensures.facts, length-facts 0 c.deref-2.result.now, ap length c.deref-2.ensures.value, c.requires.count),
  record {
    starts = c.in_ok-facts.ensures.right.started;
    frames = c.in_ok-facts.ensures.right.frames;
    rising = c.in_ok-facts.ensures.right.rising;
    within = all_within _ _ c.in_ok-facts.ensures.right.below;
    linked = links_of_items _ (map entries_of c.args.links.items) _
        (omega (arith, ap length c.in_ok-facts.ensures.facts, length-facts 0 c.deref-2.result.now, ap length c.deref-2.ensures.value, length-map c.args.links.items entries_of))
        (rw (c.in_ok-listing.ensures.listed, c.in_ok-listing.ensures.blocks, c.deref-2.ensures.value) at c.in_ok-facts.ensures.listed)
        c.in_ok-facts.ensures.right.frames;
    fits = omega (arith, c.in_ok-facts.ensures.right.total, c.in_ok-facts.ensures.room.total);
    few = omega (arith, c.in_ok-facts.ensures.room.blocks);
  },
)

pub returns : goal.returns
returns c = record {
  origins = rw (c.in_ok-listing.ensures.listed, c.in_ok-listing.ensures.blocks, c.deref-2.ensures.value) at c.in_ok-facts.ensures.listed;
  starts = c.in_ok-facts.ensures.right.started;
  frames = c.in_ok-facts.ensures.right.frames;
  rising = c.in_ok-facts.ensures.right.rising;
  within = all_within _ _ c.in_ok-facts.ensures.right.below;
  facts = rw c.deref-2.ensures.value at c.in_ok-facts.ensures.facts;
  count = rw (c.in_ok-listing.ensures.blocks, c.deref-2.ensures.value) at c.in_ok-facts.ensures.blocks;
}
