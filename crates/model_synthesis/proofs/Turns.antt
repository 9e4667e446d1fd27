-- What stands in a turn.
use Rattle.std.proofs.Common.{◌≡◌, ℕ, ◌+◌, ◌*◌, ◌<◌, List, length, get_or, ℤ, arith}
use Rattle.std.proofs.lemmas.List.FromFn.{length-map-range_with_len, get_or-map-range_with_len}
use Rattle.model_synthesis.specs.Tables.{first_quarter, wave, turn_of}

pub length-turn_of : (cosines : List ℕ) (size : ℕ) → length (turn_of cosines size) ≡ 2 * size
unfolding turn_of
length-turn_of cosines size = length-map-range_with_len (λ j. wave size (first_quarter cosines size) (2 * j + 1)) 0 (2 * size)

pub get_or-turn_of : (cosines : List ℕ) (size j : ℕ) (d : ℤ) → j < 2 * size → get_or (turn_of cosines size) j d ≡ wave size (first_quarter cosines size) (2 * j + 1)
unfolding turn_of
get_or-turn_of cosines size j d h =
    get_or-map-range_with_len (λ j. wave size (first_quarter cosines size) (2 * j + 1)) 0 (2 * size) j j d h (omega arith)
