use Rattle.std.proofs.Common.{◌≡◌, ◌*◌, ◌++◌, map}
use Rattle.std.specs.List.{range_with_len}
use Rattle.model_synthesis.specs.Coupling.{channel}
use Rattle.model_synthesis.specs.Overlaps.{overlap_at}
use Rattle.model_line.specs.Blocks.{len_of}
use Rattle.model_line.specs.FrameBytes.{frame_bytes}
use Rattle.film_dump.proofs.frames.add_frame.Given as goal

abbrev pub invariant-loop-channel : goal.invariant-loop-channel
invariant-loop-channel l = l.waiting.items ≡ l.fn.waiting.items ++ frame_bytes (map (λ c. overlap_at (2 * len_of l.right) (2 * len_of l.left) (channel l.right c) (channel l.left c) l.number) (range_with_len 0 l.channel))
