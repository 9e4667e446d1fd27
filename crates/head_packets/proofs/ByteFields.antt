-- Fields of whole bytes.
use Rattle.std.proofs.Common.{◌≡◌, ℕ, zero, suc, ◌<◌, ◌≤◌, List, [], ◌∷◌, length, get_or, take, drop, refl, sym, ap, ◌∙◌, arith, Ok, Err}
use Rattle.byteorder.specs.Endian.{little_number}
use Rattle.bit_reader.proofs.Words.{little_number-bits}
use Rattle.model_bits.specs.Bits.{bits_of, number_of}
use Rattle.model_bits.specs.Reading.{bits, or_end, times, then_read, give}
use Rattle.model_bits.proofs.BitList.{length-bits_of, take_bits_some, take_bits_none}
use Rattle.model_bits.proofs.Numbers.{bits_of-take, bits_of-drop}
use Rattle.model_bits.proofs.RoundTrip.{bits_written}
use Rattle.model_bits.proofs.Times.{times-first, times-refused}

module _ {E : Type 0} (e : E) (bytes : List ℕ) where
  -- a number of four bytes
  pub word_read : 4 ≤ length bytes → ((i : ℕ) → get_or bytes i 0 < 256) → bits e 32 (bits_of bytes) ≡ Ok (little_number 4 bytes, bits_of (drop 4 bytes))
  word_read long small =
      let n : number_of (take 32 (bits_of bytes)) ≡ little_number 4 bytes = ap number_of (bits_of-take 4 bytes long) ∙ sym (little_number-bits 4 bytes long small) in
      let t = take_bits_some (bits_of bytes) 32 (rw length-bits_of (omega arith)) in
      ap (or_end e) t ∙ ap (λ k. Ok (k, drop 32 (bits_of bytes))) n ∙ ap (λ bs. Ok (little_number 4 bytes, bs)) (bits_of-drop 4 bytes)

  pub word_cut : length bytes < 4 → bits e 32 (bits_of bytes) ≡ Err e
  word_cut short = ap (or_end e) (take_bits_none (bits_of bytes) 32 (rw length-bits_of (omega arith)))

-- so many bytes
pub bytes_read : {E : Type 0} (e : E) (n : ℕ) (bytes : List ℕ) → n ≤ length bytes → ((i : ℕ) → get_or bytes i 0 < 256) → times n (bits e 8) (bits_of bytes) ≡ Ok (take n bytes, bits_of (drop n bytes))
bytes_read e zero bytes long small = refl
bytes_read e (suc n) [] long small = absurd (omega arith)
bytes_read e (suc n) (byte ∷ bytes) long small =
    times-first (bits e 8) n (bits_of (byte ∷ bytes)) byte (bits_of bytes) (bits_written e 8 byte (bits_of bytes) (small 0))
    ∙ ap (λ r. then_read r (λ xs. give (byte ∷ xs))) (bytes_read e n bytes (omega arith) (λ i. small (suc i)))

pub bytes_cut : {E : Type 0} (e : E) (n : ℕ) (bytes : List ℕ) → length bytes < n → ((i : ℕ) → get_or bytes i 0 < 256) → times n (bits e 8) (bits_of bytes) ≡ Err e
bytes_cut e zero bytes short small = absurd (omega arith)
bytes_cut e (suc n) [] short small = times-refused (bits e 8) n [] e refl
bytes_cut e (suc n) (byte ∷ bytes) short small =
    times-first (bits e 8) n (bits_of (byte ∷ bytes)) byte (bits_of bytes) (bits_written e 8 byte (bits_of bytes) (small 0))
    ∙ ap (λ r. then_read r (λ xs. give (byte ∷ xs))) (bytes_cut e n bytes (omega arith) (λ i. small (suc i)))
