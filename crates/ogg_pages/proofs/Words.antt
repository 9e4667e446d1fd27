-- The bytes of words that were read from bytes.
use Rattle.std.proofs.Common.{◌≡◌, ℕ, ◌+◌, ◌/◌, ◌%◌, ◌^◌, ◌<◌, List, [], ◌∷◌, drop, get_or, ap, ◌∙◌, arith}
use Rattle.std.specs.Prelude.{bit_xor}
use Rattle.std.specs.Int.{w32, to_be_bytes}
use Rattle.std.proofs.lemmas.List.{get_or-drop}
use Rattle.std.proofs.lemmas.Nat.{xor_shr, xor_mod}
use Rattle.byteorder.specs.Endian.{big_number}

-- the bytes of a word are those that it was read from
pub word_bytes : (n i : ℕ) (bytes : List ℕ) → ((k : ℕ) → get_or bytes k 0 < 2 ^ 8) → n ≡ big_number 4 (drop i bytes)
    → to_be_bytes w32 n ≡ get_or bytes i 0 ∷ get_or bytes (i + 1) 0 ∷ get_or bytes (i + 2) 0 ∷ get_or bytes (i + 3) 0 ∷ []
word_bytes n i bytes fits is =
    let at0 : get_or (drop i bytes) 0 0 ≡ get_or bytes i 0 = get_or-drop i bytes 0 0 ∙ ap (λ k. get_or bytes k 0) (omega arith) in
    let at1 : get_or (drop i bytes) 1 0 ≡ get_or bytes (i + 1) 0 = get_or-drop i bytes 1 0 in
    let at2 : get_or (drop i bytes) 2 0 ≡ get_or bytes (i + 2) 0 = get_or-drop i bytes 2 0 in
    let at3 : get_or (drop i bytes) 3 0 ≡ get_or bytes (i + 3) 0 = get_or-drop i bytes 3 0 in
    let f0 = fits i in
    let f1 = fits (i + 1) in
    let f2 = fits (i + 2) in
    let f3 = fits (i + 3) in
    let b0 : n / 2 ^ 24 % 2 ^ 8 ≡ get_or bytes i 0 = omega arith in
    let b1 : n / 2 ^ 16 % 2 ^ 8 ≡ get_or bytes (i + 1) 0 = omega arith in
    let b2 : n / 2 ^ 8 % 2 ^ 8 ≡ get_or bytes (i + 2) 0 = omega arith in
    let b3 : n % 2 ^ 8 ≡ get_or bytes (i + 3) 0 = omega arith in
    cc

-- the bytes of an xor are the xors of the bytes
pub xor_bytes : (x y b0 b1 b2 b3 : ℕ) → to_be_bytes w32 y ≡ b0 ∷ b1 ∷ b2 ∷ b3 ∷ []
    → to_be_bytes w32 (bit_xor x y) ≡ bit_xor (x / 2 ^ 24 % 2 ^ 8) b0 ∷ bit_xor (x / 2 ^ 16 % 2 ^ 8) b1 ∷ bit_xor (x / 2 ^ 8 % 2 ^ 8) b2 ∷ bit_xor (x % 2 ^ 8) b3 ∷ []
xor_bytes x y b0 b1 b2 b3 is =
    let at = λ (k : ℕ). ap (λ n. n % 2 ^ 8) (xor_shr x y k) ∙ xor_mod (x / 2 ^ k) (y / 2 ^ k) 8 in
    let x0 : bit_xor x y / 2 ^ 24 % 2 ^ 8 ≡ bit_xor (x / 2 ^ 24 % 2 ^ 8) (y / 2 ^ 24 % 2 ^ 8) = at 24 in
    let x1 : bit_xor x y / 2 ^ 16 % 2 ^ 8 ≡ bit_xor (x / 2 ^ 16 % 2 ^ 8) (y / 2 ^ 16 % 2 ^ 8) = at 16 in
    let x2 : bit_xor x y / 2 ^ 8 % 2 ^ 8 ≡ bit_xor (x / 2 ^ 8 % 2 ^ 8) (y / 2 ^ 8 % 2 ^ 8) = at 8 in
    let x3 : bit_xor x y % 2 ^ 8 ≡ bit_xor (x % 2 ^ 8) (y % 2 ^ 8) = xor_mod x y 8 in
    cc
