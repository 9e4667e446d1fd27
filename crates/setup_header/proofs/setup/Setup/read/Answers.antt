use Rattle.std.proofs.Common.{◌≡◌, ap, ◌∙◌}
use Rattle.model_setup.specs.SetupPacket.{SetupFields}
use Rattle.model_setup.specs.AudioHead.{long_flags_of}
use Rattle.setup_header.proofs.SetupBytes.{was_setup}
use Rattle.setup_header.proofs.setup.Setup.read.Goals as goal

pub invariant_of-result : goal.invariant_of-result
invariant_of-result c =
    let parts = c.in_ok-parts.parts in
    let whole = c.in_ok-parts.ensures.whole in
    let modes : c.deref.result.now ≡ parts.modes = c.deref.ensures.value ∙ ap (λ (setup : SetupFields). setup.modes) c.parts.view_is in
    record {
      flags = record {
        named = whole.modes;
        flags = c.in_ok-long_flags.ensures ∙ ap long_flags_of modes;
      };
      was = was_setup c.args.channels parts c.requires.few whole (record {
        before = c.new.result.left;
        left = c.read_parts.new.bits.left;
        read = c.in_ok-parts.ensures.read;
      });
    }
