use Rattle.std.proofs.Common.{◌≡◌, ◌++◌, ◌-◌, ◌≤◌, length}
use Rattle.model_ogg.specs.Pages.{pages}
use Rattle.ogg_pages.specs.Checksums.{AreChecksums}
use Rattle.ogg_pages.proofs.scanner.scan.Given as goal

abbrev pub invariant-loop-page : goal.invariant-loop-page
invariant-loop-page l = record {
  kept : AreChecksums l.bytes l.checksums;
  within : l.place ≤ length l.bytes;
  found : l.found.items ++ pages l.bytes l.place ≡ pages l.bytes 0;
}

abbrev pub decreases-loop-page : goal.decreases-loop-page
decreases-loop-page l = length l.bytes - l.place
