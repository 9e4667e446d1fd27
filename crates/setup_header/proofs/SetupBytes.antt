-- Bytes that a setup's fields fill are read as that setup.
use Rattle.std.proofs.Common.{◌≡◌, ℕ, ◌≤◌, List, [], ◌++◌, Bool, ap, sym, subst, ◌∙◌}
use Rattle.model_bits.specs.Bits.{bits_of}
use Rattle.model_bits.specs.Writing.{WasRead, bits_of_fields, filled}
use Rattle.model_setup.specs.SetupPacket.{SetupFields, setup_at, IsSetup}
use Rattle.model_writing.specs.SetupWriting.{setup_fields}
use Rattle.model_writing.proofs.Whole.{packet_back}
use Rattle.setup_fields.specs.Puts.{ArePut}
use Rattle.setup_header.specs.Setups.{channels_of, WasSetup, AreReadAs}
use Rattle.setup_header.proofs.SetupChannels.{channels_are, few_channels}

pub bytes_read : (setup : SetupFields) (before after : List Bool) (bytes : List ℕ) → before ≡ [] → ArePut before after (setup_fields setup) → bits_of bytes ≡ filled after → WasSetup setup → AreReadAs setup bytes
bytes_read setup before after bytes none put fill was others =
    let whole : after ≡ bits_of_fields (setup_fields setup) = put.behind ∙ ap (λ bs. bs ++ bits_of_fields (setup_fields setup)) none in
    packet_back (channels_of setup) setup bytes others was.read (fill ∙ ap filled whole)

-- a setup that was read for so many channels
pub was_setup : (channels : ℕ) (setup : SetupFields) → channels ≤ 8 → IsSetup channels setup → WasRead (setup_at channels) setup → WasSetup setup
was_setup channels setup few whole was = record {
  few = few_channels channels setup few whole;
  read = subst (λ n. WasRead (setup_at n) setup) (sym (channels_are channels setup whole)) was;
}
