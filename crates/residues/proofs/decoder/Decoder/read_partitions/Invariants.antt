use Rattle.std.proofs.Common.{◌*◌, ◌-◌, true}
use Rattle.std.specs.List.{range_with_len, flat_map}
use Rattle.model_setup.specs.ResidueDecoding.{Part, each_wanted}
use Rattle.residues.specs.Decoders.{Leads}
use Rattle.residues.proofs.decoder.Decoder.read_partitions.Given as goal

abbrev pub invariant-loop-partition : goal.invariant-loop-partition
invariant-loop-partition l =
    Leads l.self (flat_map (λ partition. each_wanted l.self.wanted.now (Part l.pass partition)) (range_with_len (l.group * l.self.classwords) (l.partition - (l.group * l.self.classwords)))) l.fn.workspace l.workspace true
