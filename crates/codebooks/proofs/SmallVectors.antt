-- The values of a vector are limited.
use Rattle.std.proofs.Common.{ℕ, zero, suc, ◌^◌, ◌<◌, ◌≤◌, ℤ, pos, ◌+ℤ◌, unsigned_abs, take, sym, subst, arith}
use Rattle.std.specs.List.{All}
use Rattle.std.proofs.lemmas.Int.{ints, clamps}
use Rattle.std.proofs.lemmas.List.FromFn.{get_or-map-range_with_len, length-map-range_with_len, take-map-range_with_len}
use Rattle.model_fixed.specs.Fixed.{clamp, fix}
use Rattle.model_setup.specs.Codebook.{Lookup}
use Rattle.model_setup.specs.Vectors.{value_at, value_on, carried_on, multiplicand_at, vector_of}

pub clamp_small : (z : ℤ) → unsigned_abs (clamp (2 ^ 32) z) ≤ 2 ^ 32
clamp_small z = omega (arith, ints, clamps)

value_on_small : (lookup : Lookup) (last : ℤ) (multiplicand : ℕ) → unsigned_abs (value_on lookup last multiplicand) ≤ 2 ^ 32
value_on_small lookup last multiplicand = clamp_small ((fix multiplicand lookup.delta +ℤ fix 1 lookup.minimum) +ℤ last)

value_small : (dimensions : ℕ) (lookup : Lookup) (entry i : ℕ) → unsigned_abs (value_at dimensions lookup entry i) ≤ 2 ^ 32
unfolding value_at
value_small dimensions lookup entry zero = value_on_small lookup (pos 0) (multiplicand_at dimensions lookup entry 0)
value_small dimensions lookup entry (suc i) = value_on_small lookup (carried_on lookup (value_at dimensions lookup entry i)) (multiplicand_at dimensions lookup entry (suc i))

pub vector_small : (dimensions : ℕ) (lookup : Lookup) (entry count : ℕ) → count ≤ dimensions → All (λ v. unsigned_abs v ≤ 2 ^ 32) (take count (vector_of dimensions lookup entry))
unfolding vector_of
vector_small dimensions lookup entry count few =
    let f = value_at dimensions lookup entry in
    rw (take-map-range_with_len f 0 dimensions count few) (λ k d lt.
    let n : k < count = omega (arith, length-map-range_with_len f 0 count) in
    subst (λ v. unsigned_abs v ≤ 2 ^ 32) (sym (get_or-map-range_with_len f 0 count k k d n (omega arith))) (value_small dimensions lookup entry k))
