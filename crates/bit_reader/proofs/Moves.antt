-- The reader's place, in whole bytes and bits, and taking from there.
use Rattle.std.proofs.Common.{◌≡◌, ℕ, ◌+◌, ◌-◌, ◌*◌, ◌/◌, ◌%◌, ◌≤◌, List, length, take, drop, ap, sym, ◌∙◌, arith, Some}
use Rattle.std.proofs.lemmas.List.{take_rest}
use Rattle.model_bits.specs.Bits.{bits_of, number_of, take_bits}
use Rattle.model_bits.proofs.BitList.{takes}
use Rattle.model_bits.proofs.Numbers.{bits_of-behind}

pub looks_behind : (bytes : List ℕ) (byte bit count number : ℕ)
    → number ≡ number_of (take count (drop bit (bits_of (take (length bytes - byte) (drop byte bytes)))))
    → number ≡ number_of (take count (drop (8 * byte + bit) (bits_of bytes)))
looks_behind bytes byte bit count number is_number =
    is_number ∙ ap (λ xs. number_of (take count (drop bit (bits_of xs)))) (take_rest bytes byte) ∙ ap (λ bs. number_of (take count bs)) (sym (bits_of-behind byte bit bytes))

pub takes_behind : (bytes : List ℕ) (byte bit count number : ℕ) → 8 * byte + bit + count ≤ 8 * length bytes
    → number ≡ number_of (take count (drop bit (bits_of (take (length bytes - byte) (drop byte bytes)))))
    → take_bits count (drop (8 * byte + bit) (bits_of bytes)) ≡ Some (number, drop (8 * (byte + (bit + count) / 8) + (bit + count) % 8) (bits_of bytes))
takes_behind bytes byte bit count number within is_number =
    let place = 8 * byte + bit in
    let here : number ≡ number_of (take count (drop place (bits_of bytes))) =
    looks_behind bytes byte bit count number is_number in
    let on : place + count ≡ 8 * (byte + (bit + count) / 8) + (bit + count) % 8 = omega arith in
    takes bytes place count (omega arith) ∙ ap (λ n. Some (n, drop (place + count) (bits_of bytes))) (sym here) ∙ ap (λ p. Some (number, drop p (bits_of bytes))) on
