-- What is drawn by the words of a generator, PCG32 with words of 32 bits and a state of 64
-- (O'Neill, "PCG: a family of simple fast space-efficient statistically good algorithms for random
-- number generation"): values, one after the other.
use Rattle.std.specs.Prelude.{ℕ, zero, suc, ◌%◌, List, [], ◌∷◌}
use Rattle.rand_core.specs.Pcg32Seed.{pcg32_seed}
use Rattle.rand_pcg.specs.Lcg.{Lcg}
use Rattle.rand_pcg.specs.Pcg.{pcg32, pcg32_of_seed}

-- the generator of a number
unfoldable pub generator : ℕ → Lcg
generator number = pcg32_of_seed (pcg32_seed 16 number)

-- what is drawn from a generator: a value, and the generator after the words that it took
abbrev pub Draw : Type 0 → Type 0
Draw A = Lcg → A × Lcg

-- a number below n: what is left of the next word where it is divided by n
unfoldable pub draw : ℕ → Draw ℕ
draw n g = ((pcg32 g).0 % n, (pcg32 g).1)

-- this value, and no word is taken
abbrev pub give : {A : Type 0} → A → Draw A
give x g = (x, g)

-- one value, and then another that depends on it
infixl 10 ◌>>=◌
abbrev pub ◌>>=◌ : {A B : Type 0} → Draw A → (A → Draw B) → Draw B
◌>>=◌ m f g = f (m g).0 (m g).1

-- so many values in a row
abbrev pub draws : {A : Type 0} → ℕ → Draw A → Draw (List A)
draws zero m = give []
draws (suc n) m = do
  x ← m
  xs ← draws n m
  give (x ∷ xs)

-- a value for each item of a list, in order
abbrev pub draw_each : {X A : Type 0} → (X → Draw A) → List X → Draw (List A)
draw_each m [] = give []
draw_each m (x ∷ xs) = do
  y ← m x
  ys ← draw_each m xs
  give (y ∷ ys)
