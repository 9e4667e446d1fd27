-- How many values stand before the slope of a size.
use Rattle.std.proofs.Common.{◌≡◌, ℕ, zero, suc, ◌+◌, ◌-◌, ◌^◌, ◌≤◌, ◌∙◌, sym, ap, subst, refl, lit≤, arith}
use Rattle.model_synthesis.specs.Tables.{slopes_before, IsSlopeSize}

pub record HasPlace (size : ℕ) : Type 0 where
  pub least : 32 ≤ size
  pub most : size ≤ 4096
  pub before : slopes_before size ≡ size - 32

by_exponent : (k : ℕ) → k ≤ 7 → HasPlace (2 ^ (5 + k))
by_exponent zero h = record { least = lit≤ tt; most = lit≤ tt; before = refl }
by_exponent (suc zero) h = record { least = lit≤ tt; most = lit≤ tt; before = refl }
by_exponent (suc (suc zero)) h = record { least = lit≤ tt; most = lit≤ tt; before = refl }
by_exponent (suc (suc (suc zero))) h = record { least = lit≤ tt; most = lit≤ tt; before = refl }
by_exponent (suc (suc (suc (suc zero)))) h =
    record { least = lit≤ tt; most = lit≤ tt; before = refl }
by_exponent (suc (suc (suc (suc (suc zero))))) h =
    record { least = lit≤ tt; most = lit≤ tt; before = refl }
by_exponent (suc (suc (suc (suc (suc (suc zero)))))) h =
    record { least = lit≤ tt; most = lit≤ tt; before = refl }
by_exponent (suc (suc (suc (suc (suc (suc (suc zero))))))) h =
    record { least = lit≤ tt; most = lit≤ tt; before = refl }
by_exponent (suc (suc (suc (suc (suc (suc (suc (suc k)))))))) h = absurd (omega arith)

pub slope_size_place : (size : ℕ) → IsSlopeSize size → HasPlace size
slope_size_place size is =
    let low : 5 ≤ is.exponent = is.at_least_32 in
    let high : is.exponent ≤ 12 = is.at_most_4096 in
    let split : 5 + (is.exponent - 5) ≡ is.exponent = omega arith in
    let whole : 2 ^ (5 + (is.exponent - 5)) ≡ size = ap (λ e. 2 ^ e) split ∙ sym is.is_power in
    subst HasPlace whole (by_exponent (is.exponent - 5) (omega arith))
