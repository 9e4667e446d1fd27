-- The parts of a packet, from what was read of it.
use Rattle.std.proofs.Common.{◌≡◌, ℕ, ℤ, Bool, List, map, Option, ap, ◌∙◌}
use Rattle.std.specs.Prelude.{is_some}
use Rattle.model_setup.specs.SetupPacket.{Mapping, SetupFields}
use Rattle.model_synthesis.specs.Coupling.{without_steps}
use Rattle.model_block.specs.PacketParts.{channel_curves, wanted_channels, channel_residues}
use Rattle.model_block.specs.PacketBlocks.{packet_parts}

pub parts_are : (setup : SetupFields) (mapping : Mapping) (size : ℕ) (left behind rest : List Bool) (curves : List (Option (List ℕ))) (wanted : List Bool) (residues apart : List (List ℤ))
    → (curves, behind) ≡ channel_curves setup mapping size left
    → wanted ≡ wanted_channels mapping.couplings (map is_some curves)
    → (residues, rest) ≡ channel_residues setup mapping size wanted behind
    → apart ≡ without_steps mapping.couplings residues
    → (apart, curves) ≡ packet_parts setup mapping size left
unfolding packet_parts
parts_are setup mapping size left behind rest curves wanted residues apart read w r u =
    rw (← read) (ap (λ (x : List (List ℤ)). (x, curves))
    (u ∙ ap (without_steps mapping.couplings) (ap (λ (p : List (List ℤ) × List Bool). p.0) r ∙ ap (λ (f : List Bool). (channel_residues setup mapping size f behind).0) w)))
