use Rattle.std.proofs.Common.{◌≡◌, ◌*◌, ◌%◌, ◌^◌, map}
use Rattle.std.specs.List.{range_with_len}
use Rattle.number_transform.specs.Field.{residue_of}
use Rattle.half_sums.specs.declared.block.TheConstants.{SUM_STEP}
use Rattle.half_sums.specs.Blocks.{cosine_at, size_of}
use Rattle.half_sums.proofs.making.cosine_residues.Given as goal

abbrev pub invariant-loop : goal.invariant-loop
invariant-loop l = record {
  step : l.step ≡ (SUM_STEP ^ l.counter) % (4 * l.size);
  items : l.values.items ≡ map (λ k. residue_of (cosine_at l.cosines (size_of l.levels) (SUM_STEP ^ k))) (range_with_len 0 l.counter);
}
