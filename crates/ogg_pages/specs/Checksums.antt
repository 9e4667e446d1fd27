-- What is kept from page to page, so that their checksums are found in linear time.
use Rattle.std.specs.Prelude.{ℕ, ◌≤◌, List, length}
use Rattle.ogg_pages.specs.declared.checksums.Checksums.{Checksums}
use Rattle.ogg_pages.specs.Ring.{IsRing}

-- The ring is one of these bytes, and no more of them than there are was read at once.
pub record AreChecksums (bytes : List ℕ) (sums : Checksums) : Type 0 where
  pub ring : IsRing bytes sums.ring
  pub read : sums.read ≤ length bytes
