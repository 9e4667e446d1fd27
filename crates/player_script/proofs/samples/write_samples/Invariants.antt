use Rattle.std.proofs.Common.{◌≡◌, ◌++◌, take}
use Rattle.std.specs.List.{flat_map}
use Rattle.hex.specs.Hex.{encode_lower}
use Rattle.model_line.specs.FrameBytes.{sample_bytes}
use Rattle.player_script.proofs.samples.write_samples.Given as goal

abbrev pub invariant-loop-value : goal.invariant-loop-value
invariant-loop-value l =
    l.out.items ≡ l.fn.out.items ++ encode_lower (flat_map sample_bytes (take l.value-index l.values))
