-- The heads of packets with the bytes of made films: the modes and the window flags that were put
-- into their first bytes.
use Rattle.std.proofs.Common.{◌≡◌, ℕ, ◌+◌, ◌*◌, ◌/◌, ◌%◌, ◌<◌, Bool, true, false, List, [], ◌∷◌, length, drop, map, Option, Some, Result, Ok, refl, ap, ◌∙◌, arith, lit<}
use Rattle.std.specs.Prelude.{nat_lt, ◌==◌, if◌then◌else◌, slice_index_or}
use Rattle.std.specs.List.{AllByRecursion}
use Rattle.std.proofs.lemmas.Bool.{le-ltb, cond-false}
use lib.Count.{count_leading_zeros}
use Rattle.model_bits.specs.Bits.{bits_of, bit_value, take_bits}
use Rattle.model_bits.specs.Reading.{PacketReading, ◌>>=◌, ◌>>◌, give, require, then_read, or_end, packet_bits}
use Rattle.model_setup.specs.declared.setup.PacketHead.{PacketHead}
use Rattle.model_setup.specs.declared.setup.PacketHead.TheVariants.{Block}
use Rattle.model_setup.specs.AudioHead.{window_flags_at, block_head_at, or_bad, head_by_kind, head_of, long_flags_of}
use Rattle.model_trial.specs.MadeSetup.{made_modes}
use Rattle.model_trial.specs.MadeFilm.{headed, next_mode, with_head, packets_behind}
use Rattle.model_trial.specs.FilmRead.{head_between, heads_behind}

-- the block flags of the made modes
abbrev pub made_flags : List Bool
made_flags = long_flags_of made_modes

-- ---- one bit

take_one : (b : Bool) (rest : List Bool) → take_bits 1 (b ∷ rest) ≡ Some (bit_value b, rest)
take_one true rest = cond-false _ _ _ (le-ltb (length (true ∷ rest)) 1 (omega arith))
take_one false rest = cond-false _ _ _ (le-ltb (length (false ∷ rest)) 1 (omega arith))

bit_is : (b : Bool) → (bit_value b == 1) ≡ b
bit_is true = refl
bit_is false = refl

-- ---- a head, by the first bits of a packet

abbrev behind_mode : ℕ → PacketReading PacketHead
behind_mode mode = do
  require (nat_lt mode (length made_flags)) tt
  flags ← window_flags_at (slice_index_or made_flags mode false)
  give (Block mode flags.0 flags.1)

by_mode_bit : (left : List Bool) → block_head_at made_flags left ≡ then_read (or_end tt (take_bits 1 left)) behind_mode
unfolding block_head_at count_leading_zeros
by_mode_bit left = refl

abbrev behind_second : ℕ → ℕ → PacketReading (Bool × Bool)
behind_second prev next = give (prev == 1, next == 1)

abbrev behind_first : ℕ → PacketReading (Bool × Bool)
behind_first prev = packet_bits 1 >>= behind_second prev

two_flags : (prev next : Bool) (rest : List Bool) → window_flags_at true (prev ∷ next ∷ rest) ≡ Ok ((prev, next), rest)
unfolding window_flags_at
two_flags prev next rest =
    ap (λ (t : Option (ℕ × List Bool)). then_read (or_end tt t) behind_first) (take_one prev (next ∷ rest))
    ∙ ap (λ (t : Option (ℕ × List Bool)). then_read (or_end tt t) (behind_second (bit_value prev))) (take_one next rest)
    ∙ ap (λ b. Ok ((b, bit_value next == 1), rest)) (bit_is prev) ∙ ap (λ b. Ok ((prev, b), rest)) (bit_is next)

short_head : (rest : List Bool) → block_head_at made_flags (false ∷ rest) ≡ Ok (Block 0 false false, rest)
unfolding window_flags_at
short_head rest = by_mode_bit (false ∷ rest) ∙ ap (λ (t : Option (ℕ × List Bool)). then_read (or_end tt t) behind_mode) (take_one false rest)

long_head : (prev next : Bool) (rest : List Bool) → block_head_at made_flags (true ∷ prev ∷ next ∷ rest) ≡ Ok (Block 1 prev next, rest)
long_head prev next rest =
    by_mode_bit (true ∷ prev ∷ next ∷ rest) ∙ ap (λ (t : Option (ℕ × List Bool)). then_read (or_end tt t) behind_mode) (take_one true (prev ∷ next ∷ rest))
    ∙ ap (λ (r : Result ((Bool × Bool) × List Bool) (Unit {0})). then_read r (λ flags. give (Block 1 flags.0 flags.1))) (two_flags prev next rest)

by_bits : (bytes : List ℕ) (rest : List Bool) → bits_of bytes ≡ false ∷ rest → head_of made_flags bytes ≡ or_bad (block_head_at made_flags rest)
unfolding head_of
by_bits bytes rest are =
    ap (λ bits. head_by_kind made_flags (take_bits 1 bits)) are ∙ ap (head_by_kind made_flags) (take_one false rest)

-- ---- a head, by the first byte of a packet

-- the head of a packet whose first byte is a multiple of four
short_byte : (byte : ℕ) (bytes : List ℕ) → byte % 4 ≡ 0 → head_of made_flags (byte ∷ bytes) ≡ Block 0 false false
short_byte byte bytes low =
    let none : byte % 2 ≡ 0 = omega arith in
    let mode : byte / 2 % 2 ≡ 0 = omega arith in
    let rest = drop 2 (bits_of (byte ∷ bytes)) in
    let are : bits_of (byte ∷ bytes) ≡ false ∷ false ∷ drop 2 (bits_of (byte ∷ bytes)) =
    ap (λ n. (n == 1) ∷ (byte / 2 % 2 == 1) ∷ drop 2 (bits_of (byte ∷ bytes))) none
    ∙ ap (λ n. false ∷ (n == 1) ∷ drop 2 (bits_of (byte ∷ bytes))) mode in
    by_bits (byte ∷ bytes) (false ∷ rest) are ∙ ap or_bad (short_head rest)

-- the head of a packet whose first byte has the lowest bits of a long block
long_byte : (before after byte : ℕ) (bytes : List ℕ) → before < 2 → after < 2 → byte % 16 ≡ 2 + 4 * before + 8 * after → head_of made_flags (byte ∷ bytes) ≡ Block 1 (before == 1) (after == 1)
long_byte before after byte bytes b a low =
    let q = byte / 16 in
    let whole : byte ≡ 16 * (byte / 16) + (2 + 4 * before + 8 * after) = omega arith in
    let half : byte / 2 ≡ 8 * (byte / 16) + (1 + 2 * before + 4 * after) = omega arith in
    let quarter : byte / 2 / 2 ≡ 4 * (byte / 16) + (before + 2 * after) = omega arith in
    let eighth : byte / 2 / 2 / 2 ≡ 2 * (byte / 16) + after = omega arith in
    let none : byte % 2 ≡ 0 = omega arith in
    let mode : byte / 2 % 2 ≡ 1 = omega arith in
    let prev : byte / 2 / 2 % 2 ≡ before = omega arith in
    let next : byte / 2 / 2 / 2 % 2 ≡ after = omega arith in
    let rest = drop 4 (bits_of (byte ∷ bytes)) in
    let are : bits_of (byte ∷ bytes) ≡ false ∷ true ∷ (before == 1) ∷ (after == 1) ∷ drop 4 (bits_of (byte ∷ bytes)) =
    ap (λ n. (n == 1) ∷ (byte / 2 % 2 == 1) ∷ (byte / 2 / 2 % 2 == 1) ∷ (byte / 2 / 2 / 2 % 2 == 1) ∷ drop 4 (bits_of (byte ∷ bytes))) none
    ∙ ap (λ n. false ∷ (n == 1) ∷ (byte / 2 / 2 % 2 == 1) ∷ (byte / 2 / 2 / 2 % 2 == 1) ∷ drop 4 (bits_of (byte ∷ bytes))) mode
    ∙ ap (λ n. false ∷ true ∷ (n == 1) ∷ (byte / 2 / 2 / 2 % 2 == 1) ∷ drop 4 (bits_of (byte ∷ bytes))) prev
    ∙ ap (λ n. false ∷ true ∷ (before == 1) ∷ (n == 1) ∷ drop 4 (bits_of (byte ∷ bytes))) next in
    by_bits (byte ∷ bytes) (true ∷ (before == 1) ∷ (after == 1) ∷ rest) are ∙ ap or_bad (long_head (before == 1) (after == 1) rest)

-- ---- the heads that were put into packets

either_byte : (short : Bool) (before after byte : ℕ) (bytes : List ℕ) → before < 2 → after < 2 → head_of made_flags ((if short then byte / 4 * 4 else byte / 16 * 16 + (2 + 4 * before + 8 * after)) ∷ bytes) ≡ (if short then Block 0 false false else Block 1 (before == 1) (after == 1))
either_byte true before after byte bytes b a = short_byte (byte / 4 * 4) bytes (omega arith)
either_byte false before after byte bytes b a = long_byte before after (byte / 16 * 16 + (2 + 4 * before + 8 * after)) bytes b a (omega arith)

pub head_of_made : (before mode after : ℕ) (body : List ℕ) → before < 2 → after < 2 → 0 < length body → head_of (long_flags_of made_modes) (with_head before mode after body) ≡ head_between before mode after
unfolding headed
head_of_made before mode after [] b a some = absurd (omega arith)
head_of_made before mode after (byte ∷ bytes) b a some = either_byte (mode == 0) before after byte bytes b a

pub next_mode_below : (modes : List ℕ) → AllByRecursion (λ mode. mode < 2) modes → next_mode modes < 2
next_mode_below [] small = lit< tt
next_mode_below (mode ∷ modes) small = small.0

pub heads_of_made : (before : ℕ) (modes : List ℕ) (bodies : List (List ℕ)) → before < 2 → AllByRecursion (λ mode. mode < 2) modes → length bodies ≡ length modes → AllByRecursion (λ (body : List ℕ). 0 < length body) bodies → map (head_of (long_flags_of made_modes)) (packets_behind before modes bodies) ≡ heads_behind before modes
unfolding packets_behind heads_behind
heads_of_made before [] bodies b small same some = refl
heads_of_made before (mode ∷ modes) [] b small same some = absurd (omega arith)
heads_of_made before (mode ∷ modes) (body ∷ bodies) b small same some =
    ap (λ (h : PacketHead). h ∷ map (head_of (long_flags_of made_modes)) (packets_behind mode modes bodies)) (head_of_made before mode (next_mode modes) body b (next_mode_below modes small.1) some.0)
    ∙ ap (λ (hs : List PacketHead). head_between before mode (next_mode modes) ∷ hs) (heads_of_made mode modes bodies small.0 small.1 (omega arith) some.1)
