-- Examples that compute.
use Rattle.std.proofs.Common.{◌≡◌, refl, ℕ, List, [], ◌∷◌, ◌++◌, ◌+◌, nat_lt, Some, None, Ok, Err, true, false}
use Rattle.model_bits.specs.Bits.{bits_of, bits_of_number, take_bits}
use Rattle.model_bits.specs.Places.{number_at}
use Rattle.model_bits.specs.Reading.{Reading, ◌>>=◌, ◌>>◌, give, require, bits, times, repeat, relabel}

six : bits_of (0x06 ∷ []) ≡ false ∷ true ∷ true ∷ false ∷ false ∷ false ∷ false ∷ false ∷ []
six = refl

nothing_taken : take_bits 0 [] ≡ Some (0, [])
nothing_taken = refl

three_bits : take_bits 3 (bits_of (0x06 ∷ [])) ≡ Some (6, false ∷ false ∷ false ∷ false ∷ false ∷ [])
three_bits = refl

across_bytes : take_bits 12 (bits_of (0x34 ∷ 0xf2 ∷ [])) ≡ Some (0x234, true ∷ true ∷ true ∷ true ∷ [])
across_bytes = refl

past_the_end : take_bits 9 (bits_of (0x06 ∷ [])) ≡ None
past_the_end = refl

by_place : number_at (0x34 ∷ 0xf2 ∷ []) 4 8 ≡ Some 0x23
by_place = refl

by_place_past_the_end : number_at (0x34 ∷ 0xf2 ∷ []) 9 8 ≡ None
by_place_past_the_end = refl

-- the standard's own example: 12 in 4 bits, -1 in 3, 17 in 7 and 6969 in 13 (Vorbis I, section 2.1.5)
standard : List ℕ
standard = 0xfc ∷ 0x48 ∷ 0xce ∷ 0x06 ∷ []

standard_written : bits_of_number 4 12 ++ bits_of_number 3 7 ++ bits_of_number 7 17 ++ bits_of_number 13 6969 ++ bits_of_number 5 0 ≡ bits_of standard
unfolding standard
standard_written = refl

-- a count, and so many fields that may not be zero: a cause is 1 at the end, 2 at a zero
nonzero : Reading ℕ ℕ
nonzero = do
  n ← bits 1 4
  require (nat_lt 0 n) 2
  give n

row : Reading ℕ (List ℕ)
row = do
  count ← bits 1 4
  times count nonzero

row_read : row (bits_of (0x52 ∷ 0x07 ∷ [])) ≡ Ok (5 ∷ 7 ∷ [], false ∷ false ∷ false ∷ false ∷ [])
unfolding row nonzero
row_read = refl

row_refused : row (bits_of (0x03 ∷ 0x07 ∷ [])) ≡ Err 2
unfolding row nonzero
row_refused = refl

row_cut : row (bits_of (0x52 ∷ [])) ≡ Err 1
unfolding row nonzero
row_cut = refl

renamed_cause : relabel (λ (e : ℕ). e + 40) row (bits_of (0x52 ∷ [])) ≡ Err 41
unfolding row nonzero
renamed_cause = refl

-- fields that grow: each has a bit more than the one before
growing : ℕ → Reading ℕ (ℕ × ℕ)
growing width = do
  n ← bits 1 width
  give (n, width + 1)

rows_grow : repeat 3 growing 1 (bits_of (0x35 ∷ [])) ≡ Ok ((1 ∷ 2 ∷ 6 ∷ [], 4), false ∷ false ∷ [])
unfolding growing
rows_grow = refl
