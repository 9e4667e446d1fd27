use Rattle.std.proofs.Common.{◌≡◌, ◌-◌, ◌≤◌, max}
use Rattle.ogg_pages.specs.Ring.{IsRing}
use Rattle.ogg_pages.proofs.ring.Ring.go_on_to.Given as goal

abbrev pub invariant-loop-self : goal.invariant-loop-self
invariant-loop-self l = record {
  ring : IsRing l.bytes l.self;
  first : l.self.first ≡ l.fn.self.first;
  rises : l.fn.self.last ≤ l.self.last;
  last : l.self.last ≤ max l.fn.self.last l.slab;
}

abbrev pub decreases-loop-self : goal.decreases-loop-self
decreases-loop-self l = l.slab - l.self.last
