-- Draws of the generator of 0, by computation, as the crate `rand_pcg` for Rust has them.
use Rattle.std.proofs.Common.{◌≡◌, ◌^◌, refl, [], ◌∷◌}
use Rattle.rand_core.specs.Pcg32Seed.{pcg32_seed}
use Rattle.rand_core.specs.Steps.{word_bytes, u32_at}
use Rattle.model_trial.specs.Draws.{generator, draw, draws}

-- its first two words make the number 18195738587432868099, the low word first
first_words : (draws 2 (draw (2 ^ 32)) (generator 0)).0 ≡ 298703107 ∷ 4236525527 ∷ []
unfolding generator draw pcg32_seed word_bytes u32_at
first_words = refl
