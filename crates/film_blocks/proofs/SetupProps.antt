-- What is known of a setup and of block sizes at all is known as it is: two proofs of it are one.
use Rattle.std.proofs.Common.{◌≡◌, ℕ, ◌^◌, ◌<◌, ◌≤◌, Option, Some, None, sym, ap, ◌∙◌, arith}
use Rattle.std.proofs.Math.Logic.{∥∥₁_elim}
use mathlib.Core.HLevel.{Σ_prop_path}
use Rattle.std.proofs.Math.Pow.{pow-lt}
use Rattle.std.proofs.Props.{props}
use Rattle.std.specs.Coded.{Unit-prop}
use Rattle.std.specs.Prelude.{IfSome}
use Rattle.model_setup.specs.declared.head.IdentFields.{IdentFields}
use Rattle.model_setup.specs.HeaderPackets.{IsBlockSize, IsPlayable}
use Rattle.model_setup.specs.SetupPacket.{SetupFields, IsSetup}
use Rattle.model_block.specs.declared.sizes.BlockSizes.{BlockSizes}
use Rattle.block_decoding.specs.Setups.{IsOfLink, AreSizes}

IfSome-prop : {A : Type 0} (P : A → Type 0) (o : Option A) → ((a : A) → IsProp (P a)) → IsProp (IfSome o P)
IfSome-prop P None h = Unit-prop
IfSome-prop P (Some a) h = h a

IsSetup-prop : (channels : ℕ) (setup : SetupFields) → IsProp (IsSetup channels setup)
IsSetup-prop channels setup = hlevel (props, IfSome-prop)

pub setup_whole : (channels : ℕ) (setup : SetupFields) → ∥ IsSetup channels setup ∥₁ → IsSetup channels setup
setup_whole channels setup h = ∥∥₁_elim h (IsSetup-prop channels setup) (λ (whole : IsSetup channels setup). whole)

pub setup_is_whole : (channels : ℕ) (setup : SetupFields) → ∥ IsSetup channels setup ∥₁ → IsOfLink setup
setup_is_whole channels setup h = record { channels = channels; whole = setup_whole channels setup h }

-- ---- block sizes

-- the exponent of a size, beside what holds of it
abbrev Exponent : ℕ → ℕ → Type 0
Exponent size exponent = (6 ≤ exponent) × (exponent ≤ 13) × (size ≡ 2 ^ exponent)

taken_apart : (size : ℕ) → IsBlockSize size → (e : ℕ) × Exponent size e
taken_apart size h = (h.exponent, (h.at_least_64, h.at_most_8192, h.is_power))

put_together : (size : ℕ) → (e : ℕ) × Exponent size e → IsBlockSize size
put_together size p = record { exponent = p.0; at_least_64 = p.1.0; at_most_8192 = p.1.1; is_power = p.1.2 }

below_no_other : (i j : ℕ) → 2 ^ i ≡ 2 ^ j → i < j → ⊥
below_no_other i j e lt = let less : 2 ^ i < 2 ^ j = pow-lt lt in omega (arith, less, e)

one_exponent : (i j : ℕ) → 2 ^ i ≡ 2 ^ j → i ≡ j
one_exponent i j e =
    let low : ¬ (i < j) = below_no_other i j e in
    let high : ¬ (j < i) = below_no_other j i (sym e) in
    omega (arith, low, high)

Exponent-prop : (size e : ℕ) → IsProp (Exponent size e)
Exponent-prop size e = hlevel props

IsBlockSize-prop : (size : ℕ) → IsProp (IsBlockSize size)
unfolding taken_apart put_together
IsBlockSize-prop size g h =
    ap (put_together size) (Σ_prop_path (Exponent-prop size) {u = taken_apart size g} {v = taken_apart size h} (one_exponent g.exponent h.exponent (sym g.is_power ∙ h.is_power)))

AreSizes-prop : (sizes : BlockSizes) → IsProp (AreSizes sizes)
AreSizes-prop sizes = hlevel (props, IsBlockSize-prop)

sizes_of : (ident : IdentFields) (sizes : BlockSizes) → sizes.short ≡ ident.short → sizes.long ≡ ident.long → IsPlayable ident → AreSizes sizes
sizes_of ident sizes short long playable = record {
  short = rw short playable.short;
  long = rw long playable.long;
  in_order = rw (short, long) playable.in_order;
}

pub sizes_are_right : (ident : IdentFields) (sizes : BlockSizes) → sizes.short ≡ ident.short → sizes.long ≡ ident.long → ∥ IsPlayable ident ∥₁ → AreSizes sizes
sizes_are_right ident sizes short long h = ∥∥₁_elim h (AreSizes-prop sizes) (sizes_of ident sizes short long)
