-- What stands in a turn, and in which place the turns of the block sizes stand.
use Rattle.std.proofs.Common.{◌≡◌, ℕ, suc, ◌+◌, ◌-◌, ◌*◌, ◌%◌, ◌/◌, ◌^◌, ◌<◌, ◌≤◌, ◌∙◌, sym, ap, subst, List, length, get_or, ℤ, unsigned_abs, inl, inr, arith}
use Rattle.std.specs.List.{All}
use Rattle.std.proofs.lemmas.Bool.{cases_lt}
use Rattle.std.proofs.lemmas.List.FromFn.{length-map-range_with_len, get_or-map-range_with_len}
use Rattle.std.proofs.Math.Nat.{mod-lt, div-add-mod', pow-le-pow_right, pow-succ'}
use Rattle.model_setup.specs.HeaderPackets.{IsBlockSize}
use Rattle.model_synthesis.specs.Tables.{first_quarter, wave, turn_of, turns_of}
use Rattle.model_synthesis.proofs.BlockSizes.{block_size_some}
use Rattle.model_synthesis.proofs.Turns.{length-turn_of, get_or-turn_of}
use Rattle.model_synthesis.proofs.Waves.{wave_rest, wave_small}

-- two powers of 2 less than twice apart are one
power_between : (r e : ℕ) → 2 ^ r ≤ 2 ^ e → 2 ^ e < 2 * 2 ^ r → r ≡ e
power_between r e low high = elim (cases_lt r e) [
  | inl below ↦ absurd (
      let more : suc r ≤ e = omega arith in
      let grown : 2 ^ suc r ≤ 2 ^ e = pow-le-pow_right (omega arith) more in
      let twice : 2 ^ suc r ≡ 2 * 2 ^ r = pow-succ' 2 r in
      omega arith)
  | inr above ↦ elim (cases_lt e r) [
    | inl less ↦ absurd (
        let more : suc e ≤ r = omega arith in
        let grown : 2 ^ suc e ≤ 2 ^ r = pow-le-pow_right (omega arith) more in
        let twice : 2 ^ suc e ≡ 2 * 2 ^ e = pow-succ' 2 e in
        let some : 1 ≤ 2 ^ e = pow-le-pow_right {n = 2} (omega arith) {i = 0} (omega arith) in
        omega arith)
    | inr same ↦ omega arith
  ]
]

-- the exponent of a block size, which has this logarithm
pub record HasExponent (size exponent : ℕ) : Type 0 where
  pub least : 6 ≤ exponent
  pub most : exponent ≤ 13
  pub is_power : 2 ^ exponent ≡ size

pub exponent_of : (size r : ℕ) → IsBlockSize size → 2 ^ r ≤ size → size < 2 * 2 ^ r → HasExponent size r
exponent_of size r is low high =
    let power : size ≡ 2 ^ is.exponent = is.is_power in
    let same : r ≡ is.exponent = power_between r is.exponent (omega arith) (omega arith) in
    let least : 6 ≤ is.exponent = is.at_least_64 in
    let most : is.exponent ≤ 13 = is.at_most_8192 in
    record { least = omega arith; most = omega arith; is_power = ap (λ e. 2 ^ e) same ∙ sym power }

-- the turn at the place of a block size is its turn
pub turn_at : (cosines : List ℕ) (size r : ℕ) (turn : List ℤ) → HasExponent size r → turn ≡ get_or (turns_of cosines) (r - 6) turn → turn ≡ turn_of cosines size
turn_at cosines size r turn has e =
    let least : 6 ≤ r = has.least in
    let most : r ≤ 13 = has.most in
    e
    ∙ (get_or-map-range_with_len (λ n. turn_of cosines (2 ^ n)) 6 8 (r - 6) r turn (omega arith) (omega arith)
    ∙ ap (turn_of cosines) has.is_power)

pub length-turns_of : (cosines : List ℕ) → length (turns_of cosines) ≡ 8
length-turns_of cosines = length-map-range_with_len (λ n. turn_of cosines (2 ^ n)) 6 8

pub turn_of_small : (cosines : List ℕ) (size most : ℕ) → ((i : ℕ) → get_or cosines i 0 ≤ most) → All (λ c. unsigned_abs c ≤ most) (turn_of cosines size)
turn_of_small cosines size most small j d h =
    let count : length (turn_of cosines size) ≡ 2 * size = length-turn_of cosines size in
    subst (λ c. unsigned_abs c ≤ most) (sym (get_or-turn_of cosines size j d (omega arith)))
    (wave_small size (first_quarter cosines size) most (λ u. small (u * (8192 / size))) (2 * j + 1))

-- the cosine of a number of steps stands at half of what is left of it without whole turns
pub at_rest : (cosines : List ℕ) (size t : ℕ) (d : ℤ) → IsBlockSize size → t % 2 ≡ 1 → get_or (turn_of cosines size) (t % (4 * size) / 2) d ≡ wave size (first_quarter cosines size) t
at_rest cosines size t d is odd =
    let some : 0 < size = block_size_some size is in
    let rest : ℕ = t % (4 * size) in
    let within : rest < 4 * size = mod-lt t (omega arith) in
    let whole : t / (4 * size) * (4 * size) + rest ≡ t = div-add-mod' t (4 * size) in
    let back : 2 * (rest / 2) + 1 ≡ rest = omega arith in
    get_or-turn_of cosines size (rest / 2) d (omega arith)
    ∙ (ap (wave size (first_quarter cosines size)) back ∙ wave_rest size (first_quarter cosines size) t)
