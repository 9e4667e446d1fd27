use Rattle.std.proofs.Common.{◌≡◌, ◌<◌, ◌+◌, ◌*◌, ◌%◌, ◌^◌, ◌∙◌, ◌++◌, ◌∷◌, [], List, ℕ, length, slice_get, Some, ap, sym, subst, refl, arith}
use Rattle.std.proofs.lemmas.List.{length_push}
use Rattle.half_sums.specs.declared.places.Place.{Place}
use Rattle.half_sums.specs.declared.block.TheConstants.{BIN_STEP}
use Rattle.half_sums.specs.Places.{IsBinPlace}
use Rattle.std.proofs.Math.Nat.{mod-lt}
use Rattle.half_sums.proofs.Filled.{odd_rest, power_rest, each_pushed}
use Rattle.half_sums.proofs.Powers.{odd_power}
use Rattle.half_sums.proofs.making.bin_places.Goals as goal

pub bin_place-requires : goal.bin_place-requires
bin_place-requires c =
    let size = c.block_size-size.result in
    let within : (BIN_STEP ^ c.loop.counter) % (4 * size) < 4 * size = mod-lt (BIN_STEP ^ c.loop.counter) (omega arith) in
    record {
      size = record {
        few = omega arith;
        even = c.block_size-size.ensures.even;
        some = omega arith;
        within = omega arith;
        odd = ap (λ x. x % 2) c.loop.invariant.step ∙ odd_rest (BIN_STEP ^ c.loop.counter) size (odd_power BIN_STEP c.loop.counter refl);
      };
    }

pub loop-preserved : goal.loop-preserved
loop-preserved c =
    let size = c.block_size-size.result in
    let pushed : c.push.new.self.items ≡ c.loop.places.items ++ c.bin_place.result ∷ [] = c.in_ok-push.ensures.items in
    record {
      step = power_rest BIN_STEP c.loop.counter (4 * size) c.loop.step c.loop.invariant.step;
      count = ap length pushed ∙ (length_push c.loop.places.items c.bin_place.result ∙ ap (λ n. n + 1) c.loop.invariant.count);
      each = subst (λ (l : List Place). (b : ℕ) (p : Place) → slice_get l b ≡ Some p → IsBinPlace size ((BIN_STEP ^ b) % (4 * size)) p) (sym pushed)
          (each_pushed (λ b p. IsBinPlace size ((BIN_STEP ^ b) % (4 * size)) p) c.loop.places.items c.bin_place.result c.loop.counter c.loop.invariant.count c.loop.invariant.each
          (subst (λ t. IsBinPlace size t c.bin_place.result) c.loop.invariant.step c.bin_place.ensures));
    }
