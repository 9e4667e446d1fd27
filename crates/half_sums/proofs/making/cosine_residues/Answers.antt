use Rattle.std.proofs.Common.{◌≡◌, ◌<◌, ◌*◌, ◌%◌, ◌^◌, ◌∙◌, ◌++◌, ◌∷◌, [], ℕ, map, ap, sym, refl, arith}
use Rattle.std.specs.List.{range_with_len}
use Rattle.std.proofs.Math.Nat.{mod-lt}
use Rattle.std.proofs.lemmas.List.FromFn.{map-range_with_len_more}
use Rattle.number_transform.specs.Field.{residue_of}
use Rattle.model_synthesis.specs.Tables.{first_quarter}
use Rattle.model_synthesis.proofs.Waves.{wave_rest}
use Rattle.half_sums.specs.declared.block.TheConstants.{SUM_STEP}
use Rattle.half_sums.specs.Blocks.{cosine_at, size_of}
use Rattle.half_sums.proofs.Filled.{odd_rest, power_rest}
use Rattle.half_sums.proofs.Powers.{odd_power}
use Rattle.half_sums.proofs.making.cosine_residues.Goals as goal

pub cosine_residue-requires-clause-size : goal.cosine_residue-requires-clause-size
cosine_residue-requires-clause-size c =
    let size = c.block_size-size.result in
    let within : (SUM_STEP ^ c.loop.counter) % (4 * size) < 4 * size = mod-lt (SUM_STEP ^ c.loop.counter) (omega arith) in
    record {
      few = omega arith;
      even = c.block_size-size.ensures.even;
      some = omega arith;
      within = omega arith;
      odd = ap (λ x. x % 2) c.loop.invariant.step ∙ odd_rest (SUM_STEP ^ c.loop.counter) size (odd_power SUM_STEP c.loop.counter refl);
    }

pub loop-preserved : goal.loop-preserved
loop-preserved c =
    let size = c.block_size-size.result in
    let k = c.loop.counter in
    let table = c.args.cosines.now in
    let f = λ (i : ℕ). residue_of (cosine_at table (size_of c.args.levels) (SUM_STEP ^ i)) in
    let pushed : c.push.new.self.items ≡ c.loop.values.items ++ c.cosine_residue.result ∷ [] = c.in_ok-push.ensures.items in
    let value : c.cosine_residue.result ≡ f k =
    c.cosine_residue.ensures.value ∙ ap residue_of (ap (cosine_at table size) c.loop.invariant.step ∙ (wave_rest size (first_quarter table size) (SUM_STEP ^ k) ∙ ap (λ n. cosine_at table n (SUM_STEP ^ k)) c.block_size-size.ensures.size)) in
    record {
      step = power_rest SUM_STEP k (4 * size) c.loop.step c.loop.invariant.step;
      items = pushed ∙ (ap (λ l. l ++ c.cosine_residue.result ∷ []) c.loop.invariant.items ∙ (ap (λ x. map f (range_with_len 0 k) ++ x ∷ []) value
          ∙ sym (map-range_with_len_more f 0 k k (omega arith))));
    }
