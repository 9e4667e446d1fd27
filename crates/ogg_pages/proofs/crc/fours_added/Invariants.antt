use Rattle.std.proofs.Common.{◌≡◌, length}
use Rattle.std.specs.Prelude.{fold}
use Rattle.model_ogg.specs.Checksum.{with_byte}
use Rattle.ogg_pages.proofs.crc.fours_added.Given as goal

abbrev pub invariant-loop-four : goal.invariant-loop-four
invariant-loop-four l = fold with_byte l.sum l.rest ≡ fold with_byte l.register l.bytes

abbrev pub decreases-loop-four : goal.decreases-loop-four
decreases-loop-four l = length l.rest
