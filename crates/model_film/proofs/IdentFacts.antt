-- What identification packets that are accepted say of channels and block sizes.
use Rattle.std.proofs.Common.{◌≡◌, ◌<◌, ◌≤◌, ◌^◌, ℕ, List, Ok, Bool, true, refl, arith}
use Rattle.std.specs.Prelude.{nat_lt, ◌==◌}
use Rattle.std.proofs.lemmas.Bool.{ltb-true}
use Rattle.model_bits.specs.Bits.{bits_of}
use Rattle.model_bits.specs.Reading.{require, relabel}
use Rattle.model_setup.specs.declared.head.IdentFields.{IdentFields}
use Rattle.model_setup.specs.declared.head.IdentCause.TheVariants as idents
use Rattle.model_setup.specs.HeaderPackets.{ident_start, start_at, ident_field, format_at, bitrates_at, may_be_blocks, blocks_at, ident_framing_at, ident_at, ident_of, IsBlockSize}
use Rattle.model_film.proofs.Readings.{OfValue, Any, any_of, then_of, require_of, value_of}

pub record HasBlocks (ident : IdentFields) : Type 0 where
  pub channels : 0 < ident.channels
  pub short : IsBlockSize ident.short
  pub long : IsBlockSize ident.long

abbrev HasChannels : ℕ × ℕ → Type 0
HasChannels format = 0 < format.0

format_of : (left : List Bool) → OfValue HasChannels (format_at left)
unfolding format_at
format_of left =
    then_of (ident_field 32 left) _ Any HasChannels (any_of (ident_field 32 left)) (λ version left1 any1.
    then_of (require (version == 0) idents.Version left1) _ Any HasChannels (any_of (require (version == 0) idents.Version left1)) (λ u left2 any2.
    then_of (ident_field 8 left2) _ Any HasChannels (any_of (ident_field 8 left2)) (λ channels left3 any3.
    then_of (require (nat_lt 0 channels) idents.Channels left3) _ (λ n. nat_lt 0 channels ≡ true) HasChannels (require_of (nat_lt 0 channels) idents.Channels left3) (λ v left4 some.
    then_of (ident_field 32 left4) _ Any HasChannels (any_of (ident_field 32 left4)) (λ rate left5 any5.
    then_of (require (nat_lt 0 rate) idents.Rate left5) _ Any HasChannels (any_of (require (nat_lt 0 rate) idents.Rate left5)) (λ w left6 any6.
    ltb-true 0 channels some))))))

abbrev AreBlockSizes : ℕ × ℕ → Type 0
AreBlockSizes sizes = IsBlockSize sizes.0 × IsBlockSize sizes.1

exponents : (short long : ℕ) → may_be_blocks short long ≡ true → (6 ≤ short) × (short ≤ long) × (long ≤ 13)
exponents short long e = grind (arith, e)

sizes_from : (short long : ℕ) → may_be_blocks short long ≡ true → AreBlockSizes (2 ^ short, 2 ^ long)
sizes_from short long e =
    let within = exponents short long e in (
      record { exponent = short; at_least_64 = within.0; at_most_8192 = omega (arith, within.1, within.2); is_power = refl },
      record { exponent = long; at_least_64 = omega (arith, within.0, within.1); at_most_8192 = within.2; is_power = refl },
    )

blocks_of : (left : List Bool) → OfValue AreBlockSizes (blocks_at left)
unfolding blocks_at
blocks_of left =
    then_of (ident_field 4 left) _ Any AreBlockSizes (any_of (ident_field 4 left)) (λ short left1 any1.
    then_of (ident_field 4 left1) _ Any AreBlockSizes (any_of (ident_field 4 left1)) (λ long left2 any2.
    then_of (require (may_be_blocks short long) idents.Blocks left2) _ (λ n. may_be_blocks short long ≡ true) AreBlockSizes (require_of (may_be_blocks short long) idents.Blocks left2) (λ u left3 may.
    sizes_from short long may)))

ident_value : (left : List Bool) → OfValue HasBlocks (ident_at left)
unfolding ident_at
ident_value left =
    then_of (relabel ident_start (start_at 1) left) _ Any HasBlocks (any_of (relabel ident_start (start_at 1) left)) (λ s left1 any1.
    then_of (format_at left1) _ HasChannels HasBlocks (format_of left1) (λ format left2 some.
    then_of (bitrates_at left2) _ Any HasBlocks (any_of (bitrates_at left2)) (λ b left3 any3.
    then_of (blocks_at left3) _ AreBlockSizes HasBlocks (blocks_of left3) (λ blocks left4 are.
    then_of (ident_framing_at left4) _ Any HasBlocks (any_of (ident_framing_at left4)) (λ f left5 any5.
    record { channels = some; short = are.0; long = are.1 })))))

pub ident_has : (bytes : List ℕ) (ident : IdentFields) → ident_of bytes ≡ Ok ident → HasBlocks ident
ident_has bytes ident e = value_of (ident_at (bits_of bytes)) HasBlocks ident (ident_value (bits_of bytes)) e
