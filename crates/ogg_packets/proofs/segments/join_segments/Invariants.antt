use Rattle.std.proofs.Common.{◌≡◌, ◌+◌, ◌≤◌, ◌++◌, ℕ, List, sum, drop}
use Rattle.model_ogg.specs.Entries.{segments, packets_ended, left_pending}
use Rattle.ogg_packets.specs.Entries.{items_of, pending_of, LieBefore}
use Rattle.ogg_packets.proofs.segments.join_segments.Given as goal

abbrev pub invariant-loop-i : goal.invariant-loop-i
invariant-loop-i l = record {
  place : l.at + sum (drop l.i l.laces) ≡ l.place + sum l.laces;
  entries : (bytes : List ℕ) → items_of bytes l.entries.found.items ++ packets_ended l.mark (pending_of bytes l.pending) (segments (drop l.i l.laces) (drop l.at bytes))
      ≡ items_of bytes l.fn.entries.found.items ++ packets_ended l.mark (pending_of bytes l.fn.pending) (segments l.laces (drop l.place bytes));
  pending : (bytes : List ℕ) → left_pending (pending_of bytes l.pending) (segments (drop l.i l.laces) (drop l.at bytes))
      ≡ left_pending (pending_of bytes l.fn.pending) (segments l.laces (drop l.place bytes));
  lies : (end : ℕ) → l.place + sum l.laces ≤ end → LieBefore end l.fn.entries.found.items l.fn.pending → LieBefore end l.entries.found.items l.pending;
  limit : l.entries.limit ≡ l.fn.entries.limit;
}
