use Rattle.std.proofs.Common.{◌≡◌, ◌+◌, drop, length}
use Rattle.model_ogg.specs.Links.{up_to_link}
use Rattle.chain_links.proofs.chain.next_link.Given as goal

abbrev pub invariant-loop-i : goal.invariant-loop-i
invariant-loop-i l = l.i + length (up_to_link l.follows_first (drop l.i l.pages)) ≡ length (up_to_link l.after_first l.pages)
