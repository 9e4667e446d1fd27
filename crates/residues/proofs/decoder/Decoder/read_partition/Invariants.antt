use Rattle.std.proofs.Common.{true}
use Rattle.std.specs.List.{range_with_len, flat_map}
use Rattle.model_setup.specs.ResidueDecoding.{Part}
use Rattle.residues.specs.Decoders.{Leads}
use Rattle.residues.proofs.Leads.{if_wanted}
use Rattle.residues.proofs.decoder.Decoder.read_partition.Given as goal

abbrev pub invariant-loop-vector : goal.invariant-loop-vector
invariant-loop-vector l = Leads l.self (flat_map (if_wanted l.self.wanted.now (Part l.pass l.partition)) (range_with_len 0 l.vector)) l.fn.workspace l.workspace true
