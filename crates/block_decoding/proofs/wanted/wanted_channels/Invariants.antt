use Rattle.std.proofs.Common.{◌≡◌, length, take}
use Rattle.std.specs.Prelude.{fold}
use Rattle.model_block.specs.PacketParts.{with_step}
use Rattle.block_decoding.proofs.wanted.wanted_channels.Given as goal

abbrev pub invariant-loop-step : goal.invariant-loop-step
invariant-loop-step l = record {
  wanted : l.wanted.items ≡ fold (with_step l.used.items) l.used.items (take l.step-index l.steps);
  count : length l.wanted.items ≡ length l.curves;
}
