use Rattle.std.proofs.Common.{◌≡◌, ◌++◌, length}
use Rattle.std.specs.Prelude.{All}
use Rattle.model_ogg.specs.Pages.{IsPageOf}
use Rattle.model_ogg.specs.Streams.{stream_of}
use Rattle.model_ogg.specs.Entries.{items_after, stream_items}
use Rattle.ogg_packets.specs.Entries.{items_of, pending_of, LieBefore}
use Rattle.ogg_packets.proofs.stream.read_stream.Given as goal

abbrev pub invariant-loop-page : goal.invariant-loop-page
invariant-loop-page l = record {
  can : (goal.iterator-loop-page).can_next l.page-iterator;
  finite : (goal.iterator-loop-page).is_finite l.page-iterator;
  pages : All (IsPageOf l.bytes) (stream_of l.page-iterator.serial l.page-iterator.rest.now);
  limit : l.entries.limit ≡ l.fn.entries.limit;
  entries : items_of l.bytes l.entries.found.items ++ items_after l.bytes l.state.expected (pending_of l.bytes l.state.pending) (stream_of l.page-iterator.serial l.page-iterator.rest.now)
      ≡ stream_items l.bytes (stream_of l.serial l.pages);
  lies : LieBefore (length l.bytes) l.entries.found.items l.state.pending;
}
