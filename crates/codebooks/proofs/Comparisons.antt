-- What tests say.
use Rattle.std.proofs.Common.{◌≡◌, ℕ, ◌<◌, false, arith, leb}
use Rattle.std.proofs.lemmas.Bool.Decides.{nat_tests}

pub leb-past : (a b : ℕ) → leb a b ≡ false → b < a
leb-past a b h = grind (arith, nat_tests)
