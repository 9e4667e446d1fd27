-- Bytes as one number, the lowest byte first.
use Rattle.std.proofs.Common.{◌≡◌, ℕ, zero, suc, ◌+◌, ◌*◌, ◌/◌, ◌%◌, ◌^◌, ◌<◌, ◌≤◌, List, [], ◌∷◌, length, get_or, take, drop, refl, sym, ap, ◌∙◌, arith, length-take, ◌-◌, bit_and, inl, inr, Bool}
use Rattle.std.proofs.lemmas.List.{take_all, drop_all}
use Rattle.std.proofs.lemmas.Bool.{cases_lt}
use Rattle.std.proofs.Math.Nat.{div-eq_of_lt, mod-eq_of_lt}
use Rattle.std.specs.Int.Bits.{mask_lt}
use Rattle.std.proofs.Math.Pow.{pow_mono}
use Rattle.std.proofs.lemmas.Nat.{and_mask}
use Rattle.byteorder.specs.Endian.{little_number}
use Rattle.byteorder.specs.Numbers.{little_from-cons}
use Rattle.model_bits.specs.Bits.{bits_of, bits_of_number, number_of}
use Rattle.model_bits.proofs.Numbers.{number_of-append, number_of-drop, number_of-take, number_in_front}
use Rattle.model_bits.proofs.RoundTrip.{number_of-bits_of_number, number_of-lt}

-- the number of the first bytes is that of their bits
pub little_number-bits : (n : ℕ) (bytes : List ℕ) → n ≤ length bytes → ((i : ℕ) → get_or bytes i 0 < 256) → little_number n bytes ≡ number_of (bits_of (take n bytes))
little_number-bits zero bytes long small = refl
little_number-bits (suc n) [] long small = absurd (omega arith)
little_number-bits (suc n) (byte ∷ bytes) long small =
    let byte_small : byte < 2 ^ 8 = small 0 in
    let rest = little_number-bits n bytes (omega arith) (λ i. small (suc i)) in
    let joined = number_of-append (bits_of_number 8 byte) (bits_of (take n bytes)) in
    let first = number_of-bits_of_number 8 byte byte_small in
    omega (arith, little_from-cons 0 n byte bytes, joined, first, rest)

-- as many bytes as are wanted, or all where they are fewer
pub little_number_some : (n ahead : ℕ) (bytes : List ℕ) → n ≡ length bytes → n ≤ ahead → ((i : ℕ) → get_or bytes i 0 < 256) → little_number n bytes ≡ number_of (bits_of (take ahead bytes))
little_number_some n ahead bytes all few small =
    little_number-bits n bytes (omega arith) small ∙ ap (λ xs. number_of (bits_of xs)) (take_all n bytes (omega arith) ∙ sym (take_all ahead bytes (omega arith)))

-- behind the end there are zeros
number_behind : (skip : ℕ) (xs : List Bool) → number_of (drop skip xs) ≡ number_of xs / 2 ^ skip
number_behind skip xs = elim (cases_lt (length xs) skip) [
  | inr within ↦ number_of-drop skip xs within
  | inl past ↦
      let le : length xs ≤ skip = omega arith in
      let p : 2 ^ length xs ≤ 2 ^ skip = pow_mono le in
      let n : number_of xs < 2 ^ skip = omega (arith, number_of-lt xs) in
      ap number_of (drop_all skip xs (omega arith)) ∙ sym (div-eq_of_lt n)
]

number_before : (count : ℕ) (xs : List Bool) → number_of (take count xs) ≡ number_of xs % 2 ^ count
number_before count xs = elim (cases_lt (length xs) count) [
  | inr within ↦ number_of-take count xs within
  | inl past ↦
      let le : length xs ≤ count = omega arith in
      let p : 2 ^ length xs ≤ 2 ^ count = pow_mono le in
      let n : number_of xs < 2 ^ count = omega (arith, number_of-lt xs) in
      ap number_of (take_all count xs (omega arith)) ∙ sym (mod-eq_of_lt n)
]

-- bits behind some of the first byte, out of the first bytes
pub number_near : (bytes : List ℕ) (skip count ahead word : ℕ) → skip + count ≤ 8 * ahead → word ≡ number_of (bits_of (take ahead bytes)) → word / 2 ^ skip % 2 ^ count ≡ number_of (take count (drop skip (bits_of bytes)))
number_near bytes skip count ahead word near is_word =
    ap (λ w. w / 2 ^ skip % 2 ^ count) is_word ∙ elim (cases_lt (length bytes) ahead) [
      | inr long ↦ sym (number_in_front bytes skip count ahead (simp length-take (omega arith)))
      | inl short ↦
          ap (λ xs. number_of (bits_of xs) / 2 ^ skip % 2 ^ count) (take_all ahead bytes (omega arith))
          ∙ sym (number_before count (drop skip (bits_of bytes)) ∙ ap (λ n. n % 2 ^ count) (number_behind skip (bits_of bytes)))
    ]

-- the lowest digits behind some of a word
module _ (skip count word : ℕ) (few : count ≤ 32) where
  mask : 1 * 2 ^ count % 18446744073709551616 - 1 ≡ 2 ^ count - 1
  mask =
      let p : 2 ^ count ≤ 2 ^ 32 = pow_mono few in
      omega arith

  pub masked_fits : bit_and (word / 2 ^ skip) (1 * 2 ^ count % 18446744073709551616 - 1) < 2 ^ 32
  masked_fits =
      let p : 2 ^ count ≤ 2 ^ 32 = pow_mono few in
      rw mask (omega (arith, mask_lt (word / 2 ^ skip) count))

  pub masked : bit_and (word / 2 ^ skip) (1 * 2 ^ count % 18446744073709551616 - 1) ≡ word / 2 ^ skip % 2 ^ count
  masked = rw mask (and_mask (word / 2 ^ skip) count)
