-- The numbers of parts of a list of bits.
use Rattle.std.proofs.Common.{◌≡◌, ℕ, zero, suc, ◌+◌, ◌*◌, ◌/◌, ◌%◌, ◌^◌, ◌<◌, ◌≤◌, List, [], ◌∷◌, ◌++◌, length, take, drop, refl, sym, ap, ◌∙◌, arith, append_assoc, length-drop, length-take, Bool}
use Rattle.std.proofs.lemmas.List.{take-append-drop, take-append-le, drop-append-le, drop-drop, drop_all, take_all}
use Rattle.std.proofs.lemmas.Nat.{div-mul-add, mod-mul-add}
use Rattle.std.proofs.Math.Nat.{pow-succ'}
use Rattle.model_bits.specs.Bits.{bits_of, bits_of_number, number_of}
use Rattle.model_bits.proofs.BitList.{length-bits_of}
use Rattle.model_bits.proofs.RoundTrip.{number_of-lt}

pub number_of-append : (xs ys : List Bool) → number_of (xs ++ ys) ≡ number_of ys * 2 ^ length xs + number_of xs
number_of-append [] ys = omega arith
number_of-append (x ∷ xs) ys = omega (arith, number_of-append xs ys, ap (λ p. number_of ys * p) (pow-succ' 2 (length xs)))

module _ (k : ℕ) (xs : List Bool) (within : k ≤ length xs) where
  front : length (take k xs) ≡ k
  front = simp length-take (omega arith)

  parts : number_of xs ≡ number_of (drop k xs) * 2 ^ k + number_of (take k xs)
  parts = ap number_of (sym (take-append-drop k xs)) ∙ number_of-append (take k xs) (drop k xs) ∙ ap (λ j. number_of (drop k xs) * 2 ^ j + number_of (take k xs)) front

  small : number_of (take k xs) < 2 ^ k
  small = let h = number_of-lt (take k xs) in rw front at h

  pub number_of-drop : number_of (drop k xs) ≡ number_of xs / 2 ^ k
  number_of-drop = sym (ap (λ m. m / 2 ^ k) parts ∙ div-mul-add (number_of (drop k xs)) (2 ^ k) (number_of (take k xs)) small)

  pub number_of-take : number_of (take k xs) ≡ number_of xs % 2 ^ k
  number_of-take = sym (ap (λ m. m % 2 ^ k) parts ∙ mod-mul-add (number_of (drop k xs)) (2 ^ k) (number_of (take k xs)) small)

-- bits in the middle
pub number_of-inside : (start count : ℕ) (xs : List Bool) → start + count ≤ length xs → number_of (take count (drop start xs)) ≡ number_of xs / 2 ^ start % 2 ^ count
number_of-inside start count xs within =
    number_of-take count (drop start xs) (simp length-drop (omega arith)) ∙ ap (λ m. m % 2 ^ count) (number_of-drop start xs (omega arith))

pub bits_of-append : (xs ys : List ℕ) → bits_of (xs ++ ys) ≡ bits_of xs ++ bits_of ys
bits_of-append [] ys = refl
bits_of-append (x ∷ xs) ys = ap (λ bs. bits_of_number 8 x ++ bs) (bits_of-append xs ys) ∙ sym (append_assoc (bits_of_number 8 x) (bits_of xs) (bits_of ys))

-- whole bytes are left out
pub bits_of-drop : (n : ℕ) (bytes : List ℕ) → drop (8 * n) (bits_of bytes) ≡ bits_of (drop n bytes)
bits_of-drop zero bytes = refl
bits_of-drop (suc n) [] = drop_all (8 * suc n) [] (omega arith)
bits_of-drop (suc n) (byte ∷ bytes) =
    let e : 8 * suc n ≡ 8 + 8 * n = omega arith in
    ap (λ k. drop k (bits_of (byte ∷ bytes))) e ∙ sym (drop-drop (8 * n) 8 (bits_of (byte ∷ bytes))) ∙ bits_of-drop n bytes

-- the bits behind whole bytes and some bits more
pub bits_of-behind : (byte bit : ℕ) (bytes : List ℕ) → drop (8 * byte + bit) (bits_of bytes) ≡ drop bit (bits_of (drop byte bytes))
bits_of-behind byte bit bytes = sym (drop-drop bit (8 * byte) (bits_of bytes)) ∙ ap (drop bit) (bits_of-drop byte bytes)

-- bits that lie in the first bytes depend on those alone
pub number_in_front : (bytes : List ℕ) (skip count ahead : ℕ) → skip + count ≤ 8 * length (take ahead bytes)
    → number_of (take count (drop skip (bits_of bytes))) ≡ number_of (bits_of (take ahead bytes)) / 2 ^ skip % 2 ^ count
number_in_front bytes skip count ahead within =
    let near = take ahead bytes in
    let far = drop ahead bytes in
    let long : skip + count ≤ length (bits_of near) = rw length-bits_of within in
    let split : bits_of bytes ≡ bits_of near ++ bits_of far = ap bits_of (sym (take-append-drop ahead bytes)) ∙ bits_of-append near far in
    let moved : drop skip (bits_of near ++ bits_of far) ≡ drop skip (bits_of near) ++ bits_of far = drop-append-le skip (bits_of near) (bits_of far) (omega arith) in
    let taken : take count (drop skip (bits_of near) ++ bits_of far) ≡ take count (drop skip (bits_of near)) = take-append-le count (drop skip (bits_of near)) (bits_of far) (simp length-drop (omega arith)) in
    ap (λ bs. number_of (take count (drop skip bs))) split ∙ ap (λ bs. number_of (take count bs)) moved ∙ ap number_of taken ∙ number_of-inside skip count (bits_of near) long

-- the first whole bytes
pub bits_of-take : (n : ℕ) (bytes : List ℕ) → n ≤ length bytes → take (8 * n) (bits_of bytes) ≡ bits_of (take n bytes)
bits_of-take n bytes within =
    let near = take n bytes in
    let l : length near ≡ n = simp length-take (omega arith) in
    let long : length (bits_of near) ≡ 8 * n = length-bits_of near ∙ ap (λ k. 8 * k) l in
    ap (take (8 * n)) (ap bits_of (sym (take-append-drop n bytes)) ∙ bits_of-append near (drop n bytes))
    ∙ take-append-le (8 * n) (bits_of near) (bits_of (drop n bytes)) (omega arith) ∙ take_all (8 * n) (bits_of near) (omega arith)
