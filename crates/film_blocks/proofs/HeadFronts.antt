-- The head of a packet goes by its first two bytes.
use Rattle.std.proofs.Common.{◌≡◌, ℕ, ◌+◌, ◌-◌, ◌^◌, ◌≤◌, Bool, true, false, cond, ◌==◌, List, [], ◌∷◌, length, take, drop, Option, Some, None, Result, Ok, Err, refl, sym, ap, ◌∙◌, arith, inl, inr}
use Rattle.std.specs.Prelude.{option_map, nat_lt, slice_index_or}
use Rattle.std.proofs.lemmas.Bool.{cases_lt}
use Rattle.std.proofs.lemmas.List.{drop-take, length-take, take-take, take_all}
use Rattle.std.proofs.lemmas.Nat.{leading_length}
use Rattle.std.proofs.Math.Pow.{pow_mono}
use Rattle.model_bits.specs.Bits.{bits_of, number_of, take_bits}
use Rattle.model_bits.specs.Reading.{PacketReading, ◌>>=◌, ◌>>◌, then_read, or_end, give, require, packet_bits, without_rest}
use Rattle.model_bits.proofs.BitList.{take_bits_none, take_bits_some}
use Rattle.model_setup.specs.declared.setup.PacketHead.{PacketHead}
use Rattle.model_setup.specs.declared.setup.PacketHead.TheVariants.{Skip, Bad, Block}
use Rattle.model_setup.specs.BookReading.{ilog}
use Rattle.model_setup.specs.AudioHead.{window_flags_at, block_head_at, or_bad, head_by_kind, head_of}

-- ---- a number is taken from the first bits as from all

-- a number, and so many of the bits that are left behind it
abbrev cut : ℕ → Option (ℕ × List Bool) → Option (ℕ × List Bool)
cut n taken = option_map (λ x. (x.0, take n x.1)) taken

takes_of_front : (count n : ℕ) (bits : List Bool) → take_bits count (take (count + n) bits) ≡ cut n (take_bits count bits)
takes_of_front count n bits = elim (cases_lt (length bits) count) [
  | inl short ↦
      let all : take (count + n) bits ≡ bits = take_all (count + n) bits (omega arith) in
      let none = take_bits_none bits count short in
      ap (take_bits count) all ∙ none ∙ sym (ap (cut n) none)
  | inr enough ↦
      let same = take-take count (count + n) bits (omega arith) in
      let long : count ≤ length (take (count + n) bits) = simp length-take (omega arith) in
      take_bits_some (take (count + n) bits) count long
      ∙ ap (λ xs. Some (number_of xs, drop count (take (count + n) bits))) same
      ∙ ap (λ xs. Some (number_of (take count bits), xs)) (drop-take count n bits)
      ∙ sym (ap (cut n) (take_bits_some bits count enough))
]

-- ---- readings that go by the first bits

-- what is read is the same where there are no more bits than so many
abbrev GoesBy : {A : Type 0} → ℕ → PacketReading A → Type 0
GoesBy n reading = (bits : List Bool) → without_rest (reading (take n bits)) ≡ without_rest (reading bits)

module _ {A : Type 0} (n : ℕ) where
  after_taken : (f : ℕ → PacketReading A) → ((number : ℕ) → GoesBy n (f number)) → (taken : Option (ℕ × List Bool))
      → without_rest (then_read (or_end tt (cut n taken)) f) ≡ without_rest (then_read (or_end tt taken) f)
  after_taken f next None = refl
  after_taken f next (Some x) = next x.0 x.1

  after_number : (count : ℕ) (f : ℕ → PacketReading A) → ((number : ℕ) → GoesBy n (f number)) → GoesBy (count + n) (packet_bits count >>= f)
  after_number count f next bits =
      ap (λ taken. without_rest (then_read (or_end tt taken) f)) (takes_of_front count n bits) ∙ after_taken f next (take_bits count bits)

  tested : (b : Bool) (reading : PacketReading A) → GoesBy n reading → GoesBy n (require b tt >> reading)
  tested true reading h bits = h bits
  tested false reading h bits = refl

abbrev told : {A B : Type 0} → (A → B) → Result A (Unit {0}) → Result B (Unit {0})
told f (Ok x) = Ok (f x)
told f (Err e) = Err e

given : {A B : Type 0} (f : A → B) (r : Result (A × List Bool) (Unit {0})) → without_rest (then_read r (λ x. give (f x))) ≡ told f (without_rest r)
given f (Ok x) = refl
given f (Err e) = refl

then_given : {A B : Type 0} (n : ℕ) (reading : PacketReading A) (f : A → B) → GoesBy n reading → GoesBy n (reading >>= λ x. give (f x))
then_given n reading f h bits = given f (reading (take n bits)) ∙ ap (told f) (h bits) ∙ sym (given f (reading bits))

-- ---- the head

windows : (n : ℕ) (long : Bool) → GoesBy (1 + (1 + n)) (window_flags_at long)
unfolding window_flags_at
windows n true = after_number (1 + n) 1 _ (λ prev. after_number n 1 _ (λ next bits. refl))
windows n false = λ bits. refl

abbrev width : List Bool → ℕ
width flags = ilog (length flags - 1)

block : (n : ℕ) (flags : List Bool) → GoesBy (width flags + (1 + (1 + n))) (block_head_at flags)
unfolding block_head_at
block n flags =
    after_number (1 + (1 + n)) (width flags) _ (λ mode. tested (1 + (1 + n)) (nat_lt mode (length flags)) _ (then_given (1 + (1 + n)) _ (λ f. Block mode f.0 f.1) (windows n (slice_index_or flags mode false))))

abbrev head_told : Result PacketHead (Unit {0}) → PacketHead
head_told (Ok head) = head
head_told (Err e) = Bad

head_is : (r : Result (PacketHead × List Bool) (Unit {0})) → or_bad r ≡ head_told (without_rest r)
head_is (Ok x) = refl
head_is (Err e) = refl

by_kind : (n : ℕ) (flags : List Bool) → GoesBy n (block_head_at flags) → (kind : Option (ℕ × List Bool)) → head_by_kind flags (cut n kind) ≡ head_by_kind flags kind
by_kind n flags h None = refl
by_kind n flags h (Some kind) =
    ap (λ head. cond (kind.0 == 0) head Skip) (head_is (block_head_at flags (take n kind.1)) ∙ ap head_told (h kind.1) ∙ sym (head_is (block_head_at flags kind.1)))

-- ---- how many bits the head has

-- six bits at most name one of so few modes
few_bits : (flags : List Bool) → length flags ≤ 64 → width flags ≤ 6
few_bits flags few =
    let digits = leading_length 32 (length flags - 1) (omega arith) in
    elim (cases_lt digits.0 7) [
      | inl less ↦ omega (arith, digits.1)
      | inr more ↦ let p : 2 ^ 7 ≤ 2 ^ digits.0 = pow_mono more in absurd (omega (arith, digits.3))
    ]

bits_of_front : (bytes : List ℕ) → bits_of (take 2 bytes) ≡ take 16 (bits_of bytes)
bits_of_front [] = refl
bits_of_front (first ∷ []) = refl
bits_of_front (first ∷ second ∷ bytes) = refl

pub head_by_front : (flags : List Bool) (bytes : List ℕ) → length flags ≤ 64 → head_of flags (take 2 bytes) ≡ head_of flags bytes
unfolding head_of
head_by_front flags bytes few =
    let n = 13 - width flags in
    let all : width flags + (1 + (1 + n)) ≡ 15 = omega (arith, few_bits flags few) in
    let goes : GoesBy 15 (block_head_at flags) = rw all at (block n flags) in
    ap (λ bits. head_by_kind flags (take_bits 1 bits)) (bits_of_front bytes)
    ∙ ap (head_by_kind flags) (takes_of_front 1 15 (bits_of bytes))
    ∙ by_kind 15 flags goes (take_bits 1 (bits_of bytes))
