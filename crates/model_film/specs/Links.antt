-- What the blocks of an accepted link rest on.
use Rattle.std.specs.Prelude.{◌<◌, length, All}
use Rattle.model_setup.specs.declared.head.IdentFields.{IdentFields}
use Rattle.model_setup.specs.HeaderPackets.{IsBlockSize}
use Rattle.model_setup.specs.SetupPacket.{Mode, SetupFields, IsMapping}
use Rattle.model_line.specs.Acceptance.{FilmLink}

-- A stream with channels and with blocks of right sizes; each mode of its setup names a mapping,
-- and each mapping is one of all its channels (Vorbis I, sections 4.2.2 and 4.2.4).
pub record AreHeaders (ident : IdentFields) (setup : SetupFields) : Type 0 where
  pub channels : 0 < ident.channels
  pub short : IsBlockSize ident.short
  pub long : IsBlockSize ident.long
  pub mappings : All (IsMapping ident.channels (length setup.floors) (length setup.residues))
      setup.mappings
  pub modes : All (λ (mode : Mode). mode.mapping < length setup.mappings) setup.modes

abbrev pub IsLink : FilmLink → Type 0
IsLink link = AreHeaders link.ident link.setup
