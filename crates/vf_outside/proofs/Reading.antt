-- A reader that is cut after limit + 1 bytes.
use Rattle.std.proofs.Common.{◌≡◌, ℕ, ◌+◌, ◌-◌, ◌^◌, ◌<◌, ◌≤◌, min, List, [], ◌++◌, length, take, Option, Some, None, IfSome, ◌∙◌, ap, arith}
use Rattle.std.specs.Option.{option_map}
use Rattle.std.proofs.lemmas.List.{take_all, length-take}

-- what was read is all, where it is within the limit
pub all-within : (rest : Option (List ℕ)) (limit cut : ℕ) (old bytes : List ℕ) → cut ≡ min (limit + 1) (2 ^ 64 - 1) → old ≡ [] → length bytes ≤ limit → length bytes < 2 ^ 63
    → IfSome (option_map (take cut) rest) (λ read. bytes ≡ old ++ read) → IfSome rest (λ all. bytes ≡ all)
all-within None limit cut old bytes cut_is empty within small read = tt
all-within (Some all) limit cut old bytes cut_is empty within small read =
    let same : bytes ≡ take cut all = rw empty at read in
    let few : length all ≤ cut = omega (arith, ap length same, length-take cut all) in
    same ∙ take_all cut all few
