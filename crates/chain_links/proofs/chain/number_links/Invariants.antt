use Rattle.std.proofs.Common.{◌≡◌, ◌-◌, ◌≤◌, false, [], drop, length}
use Rattle.std.specs.Prelude.{All}
use Rattle.model_ogg.specs.declared.link.TheConstants.{MOST_LINKS}
use Rattle.model_ogg.specs.Links.{up_to_link, before_links, chain, LiesAmong, all_numbered}
use Rattle.chain_links.proofs.LinkSteps.{after_found}
use Rattle.chain_links.proofs.chain.number_links.Given as goal

abbrev pub invariant-loop-first : goal.invariant-loop-first
invariant-loop-first l = record {
  value : after_found l.links.items (all_numbered l.bytes (length l.links.items) l.first (chain (drop l.first l.pages))) ≡ all_numbered l.bytes 0 (length (before_links l.pages)) (chain l.pages);
  begins : up_to_link false (drop l.first l.pages) ≡ [];
  within : l.first ≤ length l.pages;
  few : length l.links.items ≤ MOST_LINKS;
  lie : All (LiesAmong (length l.pages)) l.links.items;
}

abbrev pub decreases-loop-first : goal.decreases-loop-first
decreases-loop-first l = length l.pages - l.first
