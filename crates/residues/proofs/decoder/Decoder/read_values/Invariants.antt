use Rattle.std.proofs.Common.{true, take}
use Rattle.model_setup.specs.ResidueDecoding.{after_reading}
use Rattle.residues.specs.Decoders.{LeadsBy, readings_of}
use Rattle.residues.proofs.decoder.Decoder.read_values.Given as goal

abbrev pub invariant-loop-reading : goal.invariant-loop-reading
invariant-loop-reading l = LeadsBy (after_reading l.book l.vector) l.self (take l.reading (readings_of l.self l.book l.first)) l.fn.workspace l.workspace true
