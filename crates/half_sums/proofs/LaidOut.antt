-- What is known of a block that was laid out, and of the size that a spectrum belongs to.
use Rattle.std.proofs.Common.{◌≡◌, ℕ, suc, ◌+◌, ◌-◌, ◌*◌, ◌^◌, ◌<◌, ◌≤◌, ◌∙◌, sym, ap, subst, inl, inr, arith, List, length, slice_get, get_or, Some}
use Rattle.std.proofs.Math.Pow.{pow_mono}
use Rattle.std.proofs.Math.Nat.{pow-suc}
use Rattle.std.proofs.lemmas.Nat.{pow_pos}
use Rattle.std.proofs.lemmas.Bool.{cases_lt}
use Rattle.model_setup.specs.HeaderPackets.{IsBlockSize}
use Rattle.number_transform.proofs.RemainderLaws.{length-remainders}
use Rattle.number_transform.specs.Factors.{factor_of}
use Rattle.half_sums.specs.declared.block.Block.{Block}
use Rattle.half_sums.specs.Blocks.{IsBlockFor}
use Rattle.half_sums.specs.Layouts.{IsLaidOut}
use Rattle.half_sums.proofs.Filled.{get_at}

pub block_at : (cosines : List ℕ) (blocks : List Block) (levels i : ℕ) (block : Block) → IsLaidOut cosines blocks
    → i + 5 ≡ levels → levels ≤ 12 → block ≡ get_or blocks i block → IsBlockFor levels cosines block
block_at cosines blocks levels i block laid e few is =
    let count : length blocks ≡ 8 = laid.count in
    let within : i < length blocks = omega arith in
    let got : slice_get blocks i ≡ Some block = get_at blocks i block within ∙ ap Some (sym is) in
    subst (λ n. IsBlockFor n cosines block) e (laid.each i block got)

pub length-factor_of : (levels : ℕ) (b : List ℕ) → length (factor_of levels b) ≡ 2 ^ levels
unfolding factor_of
length-factor_of levels b = length-remainders _ levels 1 _

-- the power of two that a number is, by the powers between which it lies
same_power : (r k : ℕ) → 2 ^ r ≤ 2 ^ k → 2 ^ k < 2 * 2 ^ r → r ≡ k
same_power r k low high = elim (cases_lt r k) [
  | inl less ↦
      let more : 2 ^ suc r ≤ 2 ^ k = pow_mono less in
      absurd (omega (arith, pow-suc 2 r))
  | inr least ↦ elim (cases_lt k r) [
    | inl less ↦
        let more : 2 ^ suc k ≤ 2 ^ r = pow_mono less in
        absurd (omega (arith, pow-suc 2 k, pow_pos k))
    | inr most ↦ omega arith
  ]
]

-- how many levels a spectrum has
pub record HasLevels (count levels : ℕ) : Type 0 where
  pub is_power : count ≡ 2 ^ levels
  pub least : 5 ≤ levels
  pub most : levels ≤ 12

pub has_levels : (count levels : ℕ) → IsBlockSize (2 * count) → 2 ^ levels ≤ count → count < 2 * 2 ^ levels → HasLevels count levels
has_levels count levels size low high =
    let k : ℕ = size.exponent - 1 in
    let least : 6 ≤ size.exponent = size.at_least_64 in
    let most : size.exponent ≤ 13 = size.at_most_8192 in
    let next : size.exponent ≡ suc k = omega arith in
    let whole : 2 * count ≡ 2 ^ suc k = size.is_power ∙ ap (λ e. 2 ^ e) next in
    let power : count ≡ 2 ^ k = omega (arith, pow-suc 2 k) in
    let same : levels ≡ k = same_power levels k (subst (λ c. 2 ^ levels ≤ c) power low) (subst (λ c. c < 2 * 2 ^ levels) power high) in
    record { is_power = power ∙ ap (λ e. 2 ^ e) (sym same); least = omega arith; most = omega arith }

pub block_size_from : (count levels : ℕ) → count ≡ 2 ^ levels → 5 ≤ levels → levels ≤ 12 → IsBlockSize (2 * count)
block_size_from count levels e least most = record {
  exponent = suc levels;
  at_least_64 = omega arith;
  at_most_8192 = omega arith;
  is_power = omega (arith, pow-suc 2 levels);
}
