use Rattle.std.proofs.Common.{◌≡◌, ℕ, ◌-◌, ◌≤◌, ◌<◌, false, length, drop}
use Rattle.model_ogg.specs.Pages.{begins_page}
use Rattle.ogg_pages.specs.Checksums.{AreChecksums}
use Rattle.ogg_pages.proofs.scanner.find_page.Given as goal

abbrev pub invariant-loop-ahead : goal.invariant-loop-ahead
invariant-loop-ahead l = record {
  after : l.from ≤ l.place;
  within : l.place ≤ length l.bytes;
  none : (k : ℕ) → l.from ≤ k → k < l.place → begins_page (drop k l.bytes) ≡ false;
  kept : AreChecksums l.bytes l.checksums;
}

abbrev pub decreases-loop-ahead : goal.decreases-loop-ahead
decreases-loop-ahead l = length l.bytes - l.place
