-- From one place of the bytes to another, and what a ring knows of it.
use Rattle.std.proofs.Common.{◌≡◌, ℕ, zero, suc, ◌+◌, ◌*◌, ◌-◌, ◌^◌, ◌<◌, ◌≤◌, List, [], ◌∷◌, ◌++◌, length, take, drop, get_or, replicate, refl, sym, ap, ◌∙◌, arith}
use Rattle.std.specs.Prelude.{fold, bit_xor}
use Rattle.std.proofs.lemmas.List.{drop-drop, length-drop, length-take-le, get_or-drop}
use Rattle.std.proofs.lemmas.List.Sums.{fold-append}
use Rattle.std.proofs.Math.Seq.{take-add}
use Rattle.std.proofs.lemmas.Nat.{xor_lt}
use lib.Bits.{xor_assoc, xor_comm, xor_self, xor_zero_r}
use Rattle.model_ogg.specs.Checksum.{with_byte}
use Rattle.ogg_pages.specs.declared.leaps.TheConstants.{SLAB_LEN}
use Rattle.ogg_pages.specs.declared.ring.Ring.{Ring}
use Rattle.ogg_pages.specs.Ring.{IsRing, bytes_between, kept_at}
use Rattle.ogg_pages.proofs.Linear.{fold-xor}
use Rattle.ogg_pages.proofs.Zeros.{after}

pub between-append : (bytes : List ℕ) (a b c : ℕ) → a ≤ b → b ≤ c → bytes_between bytes a c ≡ bytes_between bytes a b ++ bytes_between bytes b c
between-append bytes a b c ab bc =
    let whole : c - a ≡ b - a + (c - b) = omega arith in
    let there : b - a + a ≡ b = omega arith in
    let rest : drop (b - a) (drop a bytes) ≡ drop b bytes = drop-drop (b - a) a bytes ∙ ap (λ n. drop n bytes) (omega arith) in
    ap (λ n. take n (drop a bytes)) whole ∙ take-add (b - a) (c - b) (drop a bytes) ∙ ap (λ (l : List ℕ). bytes_between bytes a b ++ take (c - b) l) rest

-- a register after the bytes up to a place, and then up to a later one
pub in_two_parts : (bytes : List ℕ) (r a b c : ℕ) → a ≤ b → b ≤ c
    → fold with_byte (fold with_byte r (bytes_between bytes a b)) (bytes_between bytes b c) ≡ fold with_byte r (bytes_between bytes a c)
in_two_parts bytes r a b c ab bc =
    sym (ap (fold with_byte r) (between-append bytes a b c ab bc) ∙ fold-append with_byte r (bytes_between bytes a b) (bytes_between bytes b c))

-- the same of three parts
pub three_parts : (bytes : List ℕ) (r r1 r2 r3 a b c d : ℕ) → a ≤ b → b ≤ c → c ≤ d → r1 ≡ fold with_byte r (bytes_between bytes a b) → r2 ≡ fold with_byte r1 (bytes_between bytes b c)
    → r3 ≡ fold with_byte r2 (bytes_between bytes c d) → r3 ≡ fold with_byte r (bytes_between bytes a d)
three_parts bytes r r1 r2 r3 a b c d ab bc cd e1 e2 e3 =
    e3 ∙ ap (λ x. fold with_byte x (bytes_between bytes c d)) (e2 ∙ ap (λ x. fold with_byte x (bytes_between bytes b c)) e1 ∙ in_two_parts bytes r a b c ab bc)
    ∙ in_two_parts bytes r a c d (omega arith) cd

between-none : (bytes : List ℕ) (a : ℕ) → bytes_between bytes a a ≡ []
between-none bytes a = let none : a - a ≡ 0 = omega arith in rw none refl

-- the register of a slab by that of an earlier one
kept_law : (bytes : List ℕ) (ring : Ring) (from count : ℕ) → IsRing bytes ring → ring.first ≤ from → from + count ≤ ring.last
    → kept_at ring (from + count) ≡ fold with_byte (kept_at ring from) (bytes_between bytes (from * SLAB_LEN) ((from + count) * SLAB_LEN))
kept_law bytes ring from zero is low high =
    let here : from + 0 ≡ from = omega arith in
    rw here (sym (ap (fold with_byte (kept_at ring from)) (between-none bytes (from * SLAB_LEN))))
kept_law bytes ring from (suc count) is low high =
    let before = kept_law bytes ring from count is low (omega arith) in
    let next : from + suc count ≡ from + count + 1 = omega arith in
    let end : (from + count) * SLAB_LEN + SLAB_LEN ≡ (from + suc count) * SLAB_LEN = omega arith in
    ap (kept_at ring) next ∙ is.steps (from + count) (omega arith) (omega arith)
    ∙ ap (λ n. fold with_byte (kept_at ring (from + count)) (bytes_between bytes ((from + count) * SLAB_LEN) n)) end
    ∙ ap (λ r. fold with_byte r (bytes_between bytes ((from + count) * SLAB_LEN) ((from + suc count) * SLAB_LEN))) before
    ∙ in_two_parts bytes (kept_at ring from) (from * SLAB_LEN) ((from + count) * SLAB_LEN) ((from + suc count) * SLAB_LEN) (omega arith) (omega arith)

taken_fits : (n : ℕ) (bytes : List ℕ) → ((k : ℕ) → get_or bytes k 0 < 2 ^ 8) → (k : ℕ) → get_or (take n bytes) k 0 < 2 ^ 8
taken_fits zero bytes fits k = omega arith
taken_fits (suc n) [] fits k = omega arith
taken_fits (suc n) (b ∷ bytes) fits zero = fits 0
taken_fits (suc n) (b ∷ bytes) fits (suc k) = taken_fits n bytes (λ j. fits (suc j)) k

xor_back : (a b : ℕ) → bit_xor b (bit_xor a b) ≡ a
xor_back a b = xor_comm b (bit_xor a b) ∙ xor_assoc a b b ∙ ap (bit_xor a) (xor_self b) ∙ xor_zero_r a

-- any register goes as the one that is kept, but for what their difference comes to
pub leap_law : (bytes : List ℕ) (ring : Ring) (r a b passed from to : ℕ) → IsRing bytes ring → ((k : ℕ) → get_or bytes k 0 < 2 ^ 8) → ring.first ≤ from → from ≤ to → to ≤ ring.last
    → a < 2 ^ 32 → r < 2 ^ 32 → a ≡ kept_at ring from → b ≡ kept_at ring to → passed ≡ after ((to - from) * SLAB_LEN) (bit_xor r a)
    → bit_xor b passed ≡ fold with_byte r (bytes_between bytes (from * SLAB_LEN) (to * SLAB_LEN))
leap_law bytes ring r a b passed from to is fits low ordered high la lr is_a is_b is_passed =
    let part = bytes_between bytes (from * SLAB_LEN) (to * SLAB_LEN) in
    let there : from + (to - from) ≡ to = omega arith in
    let within = is.within in
    let long : length part ≡ (to - from) * SLAB_LEN = length-take-le (to * SLAB_LEN - from * SLAB_LEN) (drop (from * SLAB_LEN) bytes) (omega (arith, length-drop (from * SLAB_LEN) bytes)) ∙ omega arith in
    let part_fits = taken_fits (to * SLAB_LEN - from * SLAB_LEN) (drop (from * SLAB_LEN) bytes) (λ k. rw (get_or-drop (from * SLAB_LEN) bytes k 0) (fits (from * SLAB_LEN + k))) in
    let ends : b ≡ fold with_byte a part =
    is_b ∙ ap (kept_at ring) (sym there) ∙ kept_law bytes ring from (to - from) is low (omega arith)
    ∙ ap (λ n. fold with_byte (kept_at ring from) (bytes_between bytes (from * SLAB_LEN) (n * SLAB_LEN))) there ∙ ap (λ x. fold with_byte x part) (sym is_a) in
    let goes : passed ≡ fold with_byte (bit_xor r a) (replicate (length part) 0) = is_passed ∙ ap (λ n. after n (bit_xor r a)) (sym long) in
    ap (λ x. bit_xor x passed) ends ∙ ap (bit_xor (fold with_byte a part)) goes ∙ sym (fold-xor a (bit_xor r a) part la (xor_lt 32 r a lr la) part_fits) ∙ ap (λ x. fold with_byte x part) (xor_back r a)
