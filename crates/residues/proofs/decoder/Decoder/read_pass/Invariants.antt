use Rattle.std.proofs.Common.{true}
use Rattle.std.specs.List.{range_with_len, flat_map}
use Rattle.model_setup.specs.ResidueDecoding.{group_steps}
use Rattle.residues.specs.Decoders.{Leads}
use Rattle.residues.proofs.decoder.Decoder.read_pass.Given as goal

abbrev pub invariant-loop-group : goal.invariant-loop-group
invariant-loop-group l = Leads l.self (flat_map (group_steps l.self.partitions l.self.classwords l.self.wanted.now l.pass) (range_with_len 0 l.group)) l.fn.workspace l.workspace true
