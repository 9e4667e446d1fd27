-- What was written is read again, whatever follows.
use Rattle.std.proofs.Common.{◌≡◌, ℕ, zero, suc, ◌+◌, ◌*◌, ◌/◌, ◌%◌, ◌^◌, ◌<◌, List, [], ◌∷◌, ◌++◌, length, take, drop, Some, None, Ok, refl, ap, ◌∙◌, arith, cond, Bool, true, false, ◌==◌, length-append}
use Rattle.std.proofs.lemmas.Bool.{le-ltb}
use Rattle.std.proofs.lemmas.Bool.Decides.{nat_tests}
use Rattle.std.proofs.Math.Nat.{pow-succ'}
use Rattle.model_bits.specs.Bits.{bits_of_number, number_of, bit_value, take_bits}
use Rattle.model_bits.specs.Reading.{bits, or_end}

pub length-bits_of_number : (count n : ℕ) → length (bits_of_number count n) ≡ count
length-bits_of_number zero n = refl
length-bits_of_number (suc count) n = ap suc (length-bits_of_number count (n / 2))

odd : (n : ℕ) → bit_value (n % 2 == 1) ≡ n % 2
odd n = grind (arith, nat_tests)

pub number_of-bits_of_number : (count n : ℕ) → n < 2 ^ count → number_of (bits_of_number count n) ≡ n
number_of-bits_of_number zero n h = omega arith
number_of-bits_of_number (suc count) n h =
    let p = pow-succ' 2 count in
    let k : n / 2 < 2 ^ count = omega arith in
    omega (arith, number_of-bits_of_number count (n / 2) k, odd n)

-- a number of so many bits has no other bits
pub bits_of_number-number_of : (bits : List Bool) → bits_of_number (length bits) (number_of bits) ≡ bits
bits_of_number-number_of [] = refl
bits_of_number-number_of (true ∷ bits) =
    let a : (1 + 2 * number_of bits) % 2 ≡ 1 = omega arith in
    let b : (1 + 2 * number_of bits) / 2 ≡ number_of bits = omega arith in
    rw (a, b) (ap (λ bs. true ∷ bs) (bits_of_number-number_of bits))
bits_of_number-number_of (false ∷ bits) =
    let a : (0 + 2 * number_of bits) % 2 ≡ 0 = omega arith in
    let b : (0 + 2 * number_of bits) / 2 ≡ number_of bits = omega arith in
    rw (a, b) (ap (λ bs. false ∷ bs) (bits_of_number-number_of bits))

pub number_of-lt : (bits : List Bool) → number_of bits < 2 ^ length bits
number_of-lt [] = omega arith
number_of-lt (true ∷ bits) = omega (arith, number_of-lt bits, pow-succ' 2 (length bits))
number_of-lt (false ∷ bits) = omega (arith, number_of-lt bits, pow-succ' 2 (length bits))

taken : (xs rest : List Bool) → take (length xs) (xs ++ rest) ≡ xs
taken [] rest = refl
taken (x ∷ xs) rest = ap (λ ys. x ∷ ys) (taken xs rest)

dropped : (xs rest : List Bool) → drop (length xs) (xs ++ rest) ≡ rest
dropped [] rest = refl
dropped (x ∷ xs) rest = dropped xs rest

some_taken : (xs rest : List Bool) → take_bits (length xs) (xs ++ rest) ≡ Some (number_of xs, rest)
some_taken xs rest =
    ap (λ b. cond b None (Some (number_of (take (length xs) (xs ++ rest)), drop (length xs) (xs ++ rest)))) (le-ltb (length (xs ++ rest)) (length xs) (simp length-append (omega arith)))
    ∙ rw (taken, dropped) refl

-- a number that was written is read again
pub number_written : (count n : ℕ) (rest : List Bool) → n < 2 ^ count → take_bits count (bits_of_number count n ++ rest) ≡ Some (n, rest)
number_written count n rest h =
    let xs = bits_of_number count n in
    let l : length xs ≡ count = length-bits_of_number count n in
    let t : take_bits count (xs ++ rest) ≡ Some (number_of xs, rest) = rw l at (some_taken xs rest) in
    t ∙ ap (λ v. Some (v, rest)) (number_of-bits_of_number count n h)

pub bits_written : {E : Type 0} (e : E) (count n : ℕ) (rest : List Bool) → n < 2 ^ count → bits e count (bits_of_number count n ++ rest) ≡ Ok (n, rest)
bits_written e count n rest h = ap (or_end e) (number_written count n rest h)
