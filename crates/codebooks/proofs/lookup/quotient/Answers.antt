use Rattle.std.proofs.Common.{◌≡◌, ◌+◌, ◌-◌, ◌*◌, ◌/◌, ◌^◌, ◌<◌, ◌≤◌, ap, ◌∙◌, arith}
use Rattle.std.proofs.lemmas.Nat.{mul-le}
use Rattle.codebooks.proofs.Units.{by_factor}
use Rattle.codebooks.proofs.lookup.quotient.Goals as goal

pub returns : goal.returns
returns c =
    let n = c.args.number in
    let b = c.args.divisor in
    let small : n * b ≤ (2 ^ 32 - 1) * (2 ^ 32 - 1) = mul-le n b (2 ^ 32 - 1) (2 ^ 32 - 1) (omega arith) (omega arith) in
    let below : n * b < 2 ^ 64 = omega arith in
    let is : c.from.result * c.args.factor ≡ n * (2 ^ 64 / b + 1) = ap (λ m. m * c.args.factor) c.from.ensures ∙ ap (λ f. n * f) c.requires.factor in
    ap (λ p. p / 2 ^ 64) is ∙ by_factor (2 ^ 64) n b c.requires.some below
