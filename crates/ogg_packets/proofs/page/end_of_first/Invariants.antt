use Rattle.std.proofs.Common.{◌≡◌, ℕ, List, sum, take, drop}
use Rattle.model_ogg.specs.Entries.{segments, after_end}
use Rattle.ogg_packets.proofs.page.end_of_first.Given as goal

abbrev pub invariant-loop-i : goal.invariant-loop-i
invariant-loop-i l = (body : List ℕ) → after_end (segments l.laces body) ≡ after_end (segments (drop l.i l.laces) (drop (sum (take l.i l.laces)) body))
