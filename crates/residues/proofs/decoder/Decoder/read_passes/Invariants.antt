use Rattle.std.proofs.Common.{true}
use Rattle.std.specs.List.{range_with_len, flat_map}
use Rattle.model_setup.specs.ResidueDecoding.{pass_steps}
use Rattle.residues.specs.Decoders.{Leads}
use Rattle.residues.proofs.decoder.Decoder.read_passes.Given as goal

abbrev pub invariant-loop-pass : goal.invariant-loop-pass
invariant-loop-pass l = Leads l.self (flat_map (pass_steps l.self.partitions l.self.classwords l.self.wanted.now) (range_with_len 0 l.pass)) l.fn.workspace l.workspace true
