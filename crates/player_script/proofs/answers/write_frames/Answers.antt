use Rattle.std.proofs.Common.{◌++◌, ℕ, ℤ, List, length, codes, ap, ◌∙◌}
use Rattle.std.specs.Fmt.{decimal}
use Rattle.std.specs.List.{flat_map}
use Rattle.hex.specs.Hex.{encode_lower}
use Rattle.model_line.specs.FrameBytes.{sample_bytes, frame_bytes}
use Rattle.player_script.proofs.Bodies.{on_ok, five_parts}
use Rattle.player_script.proofs.SampleSteps.{by_values}
use Rattle.player_script.proofs.answers.write_frames.Goals as goal

pub returns-clause-ok : goal.returns-clause-ok
returns-clause-ok c =
    let samples = ap (λ (vs : List ℤ). encode_lower (flat_map sample_bytes vs)) c.items.ensures ∙ ap encode_lower (by_values c.args.frames.now) in
    on_ok c.write_samples.result (λ written.
    five_parts c.args.out.now.items c.write_number.new.out.items c.write_number-2.new.out.items c.write_number-3.new.out.items c.write.new.out.items c.write_samples.new.out.items
    (codes " frames ") (decimal c.args.link) (decimal c.args.channels) (decimal (length c.args.frames.now)) (encode_lower (flat_map frame_bytes c.args.frames.now))
    (c.in_ok-write_number.ensures.ok ∙ ap (λ n. c.args.out.now.items ++ (codes " frames " ++ decimal n)) c.from.ensures)
    (c.in_ok-write_number-2.ensures.ok ∙ ap (λ n. c.write_number.new.out.items ++ (codes " " ++ decimal n)) c.from-2.ensures)
    (c.in_ok-write_number-3.ensures.ok ∙ ap (λ n. c.write_number-2.new.out.items ++ (codes " " ++ decimal n)) c.count.ensures)
    c.in_ok-write.ensures.ok
    (written ∙ ap (λ (ds : List ℕ). c.write.new.out.items ++ ds) samples)) c.write_samples.ensures.ok
