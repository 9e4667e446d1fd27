use Rattle.std.proofs.Common.{◌≡◌, ◌≤◌, ◌<◌, ◌+◌, ◌*◌, ◌%◌, ◌^◌, ◌∙◌, ◌++◌, ◌∷◌, [], ◌+ℤ◌, ℕ, pos, List, length, slice_index, ap, sym, subst, refl, rules, w64, arith}
use Rattle.std.proofs.Math.Nat.{mod-lt}
use Rattle.std.proofs.lemmas.Int.{to_z-of_z}
use Rattle.std.proofs.lemmas.List.{length_push}
use Rattle.model_synthesis.specs.declared.constants.TheConstants.{SCALE}
use Rattle.model_synthesis.specs.Tables.{first_quarter}
use Rattle.model_synthesis.proofs.Waves.{wave_rest}
use Rattle.half_sums.specs.declared.block.TheConstants.{SUM_STEP}
use Rattle.half_sums.specs.Blocks.{cosine_at, size_of}
use Rattle.half_sums.proofs.Filled.{odd_rest, power_rest}
use Rattle.half_sums.proofs.Pushed.{each_with_pushed}
use Rattle.half_sums.proofs.Powers.{odd_power}
use Rattle.half_sums.proofs.making.waves.Goals as goal

pub cosine-requires-clause-size : goal.cosine-requires-clause-size
cosine-requires-clause-size c =
    let size = c.block_size-size.result in
    let within : (SUM_STEP ^ c.loop.counter) % (4 * size) < 4 * size = mod-lt (SUM_STEP ^ c.loop.counter) (omega arith) in
    record {
      few = omega arith;
      even = c.block_size-size.ensures.even;
      some = omega arith;
      within = omega arith;
      odd = ap (λ x. x % 2) c.loop.invariant.step ∙ odd_rest (SUM_STEP ^ c.loop.counter) size (odd_power SUM_STEP c.loop.counter refl);
    }

pub loop-preserved : goal.loop-preserved
loop-preserved c =
    let size = c.block_size-size.result in
    let k = c.loop.counter in
    let table = c.args.cosines.now in
    let pushed : c.push.new.self.items ≡ c.loop.waves.items ++ c.raised.result ∷ [] = c.in_ok-push.ensures.items in
    let value = c.cosine.ensures.value ∙ (ap (cosine_at table size) c.loop.invariant.step ∙ (wave_rest size (first_quarter table size) (SUM_STEP ^ k) ∙ ap (λ n. cosine_at table n (SUM_STEP ^ k)) c.block_size-size.ensures.size)) in
    let read = to_z-of_z w64 c.cosine.result (search rules) in
    let raised = ap (λ z. pos c.raised.result +ℤ z) (sym (read ∙ value)) ∙ c.raised.ensures.value in
    record {
      step = power_rest SUM_STEP k (4 * size) c.loop.step c.loop.invariant.step;
      count = ap length pushed ∙ (length_push c.loop.waves.items c.raised.result ∙ ap (λ n. n + 1) c.loop.invariant.count);
      small = subst (λ (l : List ℕ). (i : ℕ) → i < c.loop.counter + 1 → slice_index l i ≤ 2 * 2 ^ SCALE) (sym pushed)
          (each_with_pushed (λ _ x. x ≤ 2 * 2 ^ SCALE) c.loop.waves.items c.raised.result c.loop.counter c.loop.invariant.count c.loop.invariant.small c.raised.ensures.small);
      each = subst (λ (l : List ℕ). (i : ℕ) → i < c.loop.counter + 1 → (pos (slice_index l i) +ℤ cosine_at table (size_of c.args.levels) (SUM_STEP ^ i)) ≡ pos (2 ^ SCALE)) (sym pushed)
          (each_with_pushed (λ i x. (pos x +ℤ cosine_at table (size_of c.args.levels) (SUM_STEP ^ i)) ≡ pos (2 ^ SCALE)) c.loop.waves.items c.raised.result c.loop.counter c.loop.invariant.count c.loop.invariant.each raised);
    }
