use Rattle.std.proofs.Common.{◌≡◌, ◌∙◌, ◌<◌, ◌≤◌, ◌*◌, ◌-◌, ◌%◌, ◌^◌, suc, ap, length, arith}
use Rattle.std.proofs.Math.Nat.{pow-le-pow_right, pow-succ', mod-eq_of_lt}
use Rattle.fixed_synthesis.proofs.tests.block.Goals as goal

pub transform-requires-clause-size : goal.transform-requires-clause-size
transform-requires-clause-size c =
    let rest : c.args.exponent - 1 ≤ 12 = omega arith in
    let small : 2 ^ (c.args.exponent - 1) ≤ 2 ^ 12 = pow-le-pow_right {n = 2} (omega arith) rest in
    let fits : 1 * 2 ^ (c.args.exponent - 1) < 2 ^ 32 = omega arith in
    let kept : (1 * 2 ^ (c.args.exponent - 1)) % 2 ^ 32 ≡ 1 * 2 ^ (c.args.exponent - 1) = mod-eq_of_lt fits in
    let count : length c.deref.result.now ≡ (1 * 2 ^ (c.args.exponent - 1)) % 2 ^ 32 = ap length c.deref.ensures.value ∙ c.in_ok-spectrum.ensures.count in
    let twice : 2 ^ suc (c.args.exponent - 1) ≡ 2 * 2 ^ (c.args.exponent - 1) = pow-succ' 2 (c.args.exponent - 1) in
    let whole : suc (c.args.exponent - 1) ≡ c.args.exponent = omega arith in
    let size : 2 * length c.deref.result.now ≡ 2 ^ suc (c.args.exponent - 1) = omega arith in
    record {
      exponent = c.args.exponent;
      at_least_64 = omega arith;
      at_most_8192 = omega arith;
      is_power = size ∙ ap (λ n. 2 ^ n) whole;
    }
