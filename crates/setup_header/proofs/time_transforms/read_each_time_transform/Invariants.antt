use Rattle.std.proofs.Common.{◌≡◌, drop}
use Rattle.std.specs.Prelude.{replicate}
use Rattle.std.specs.List.{range_with_len}
use Rattle.model_bits.specs.Reading.{each}
use Rattle.model_bits.proofs.Times.{with_front}
use Rattle.model_setup.specs.declared.setup.SetupCause.TheVariants.{Time}
use Rattle.model_setup.specs.declared.setup.SetupFault.TheVariants.{Bad}
use Rattle.model_setup.specs.SetupPacket.{zero_at}
use Rattle.setup_header.proofs.time_transforms.read_each_time_transform.Given as goal

abbrev pub invariant-loop-number : goal.invariant-loop-number
invariant-loop-number l = record {
  read : with_front (replicate l.number 0) (each (λ number. zero_at 16 (Bad Time number)) (drop l.number (range_with_len 0 l.count)) l.bits.left) ≡ each (λ number. zero_at 16 (Bad Time number)) (range_with_len 0 l.count) l.fn.bits.left;
  bytes : l.bits.total ≡ l.fn.bits.total;
}
