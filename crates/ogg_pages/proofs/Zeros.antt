-- Registers after bytes 0.
use Rattle.std.proofs.Common.{◌≡◌, ℕ, zero, suc, ◌+◌, ◌*◌, ◌/◌, ◌%◌, ◌^◌, ◌<◌, List, [], ◌∷◌, get_or, replicate, refl, sym, ap, ◌∙◌, arith}
use Rattle.std.specs.Prelude.{bit_xor, fold}
use Rattle.std.proofs.lemmas.List.{length-replicate, replicate-append-replicate}
use Rattle.std.proofs.lemmas.List.Sums.{fold-append}
use Rattle.model_ogg.specs.Checksum.{shifted, shifted_times, with_byte}
use Rattle.ogg_pages.specs.declared.leaps.TheConstants.{SLAB_LEN}
use Rattle.ogg_pages.proofs.Linear.{fold-xor, with_byte-lt}

-- a register after so many bytes 0
abbrev pub after : ℕ → ℕ → ℕ
after count r = fold with_byte r (replicate count 0)

-- a register has 32 bits after any bytes
pub fold-lt : (r : ℕ) (bytes : List ℕ) → r < 2 ^ 32 → ((k : ℕ) → get_or bytes k 0 < 2 ^ 8) → fold with_byte r bytes < 2 ^ 32
fold-lt r [] lt fits = lt
fold-lt r (b ∷ bytes) lt fits = fold-lt (with_byte r b) bytes (with_byte-lt r b lt (fits 0)) (λ k. fits (suc k))

none_fits : (count k : ℕ) → get_or (replicate count 0) k 0 < 2 ^ 8
none_fits zero k = omega arith
none_fits (suc count) zero = omega arith
none_fits (suc count) (suc k) = none_fits count k

pub after-lt : (count r : ℕ) → r < 2 ^ 32 → after count r < 2 ^ 32
after-lt count r lt = fold-lt r (replicate count 0) lt (none_fits count)

pub after-xor : (count x y : ℕ) → x < 2 ^ 32 → y < 2 ^ 32 → after count (bit_xor x y) ≡ bit_xor (after count x) (after count y)
after-xor count x y lx ly =
    fold-xor x y (replicate count 0) lx ly (none_fits count) ∙ ap (λ n. bit_xor (after count x) (after n y)) (length-replicate count 0)

pub after-after : (m n r : ℕ) → after n (after m r) ≡ after (m + n) r
after-after m n r = sym (fold-append with_byte r (replicate m 0) (replicate n 0)) ∙ ap (fold with_byte r) (replicate-append-replicate m n 0)

with_none : with_byte 0 0 ≡ 0
unfolding shifted shifted_times with_byte
with_none = refl

-- a register 0 stays so
pub after-none : (count : ℕ) → after count 0 ≡ 0
after-none zero = refl
after-none (suc count) = ap (after count) with_none ∙ after-none count

-- the slabs that two digits of base 32 tell
pub two_digits : (r count low all : ℕ) → low ≡ after (count % 32 * 32 ^ 0 * SLAB_LEN) r → all ≡ after (count / 32 * 32 ^ 1 * SLAB_LEN) low → all ≡ after (count * SLAB_LEN) r
two_digits r count low all is_low is_all =
    let sum : count % 32 * 32 ^ 0 * SLAB_LEN + count / 32 * 32 ^ 1 * SLAB_LEN ≡ count * SLAB_LEN = omega arith in
    is_all ∙ ap (after (count / 32 * 32 ^ 1 * SLAB_LEN)) is_low ∙ after-after (count % 32 * 32 ^ 0 * SLAB_LEN) (count / 32 * 32 ^ 1 * SLAB_LEN) r ∙ ap (λ n. after n r) sum
