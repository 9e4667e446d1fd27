-- Bits put behind others, through a word.
use Rattle.std.proofs.Common.{◌≡◌, ℕ, zero, suc, ◌+◌, ◌-◌, ◌*◌, ◌/◌, ◌%◌, ◌^◌, ◌<◌, ◌≤◌, List, [], ◌∷◌, ◌++◌, length, get_or, take, replicate, refl, sym, ap, ◌∙◌, arith, append_assoc, length-append, zero-add, false, ◌==◌, inl, inr}
use Rattle.std.proofs.lemmas.List.{append-nil, take_all, take_more, get_or_past, get_or-append-add, length-take-le}
use Rattle.std.proofs.lemmas.Bool.{cases_lt}
use Rattle.std.proofs.lemmas.Nat.{pow-add, pow_pos, mul-add-lt}
use Rattle.std.proofs.Math.Nat.{pow-succ', div-one, div-div-eq-div-mul, div-lt_iff_lt-mul, mod-eq_of_lt, mul-le-mul_left}
use Rattle.std.proofs.Math.Pow.{pow_mono}
use Rattle.std.specs.Int.{byte_at, bytes_low_first}
use Rattle.byteorder.proofs.Bytes.{take-bytes_low_first}
use Rattle.model_bits.specs.Bits.{bits_of, bits_of_number}
use Rattle.model_bits.specs.Writing.{filled}
use Rattle.model_bits.proofs.Numbers.{bits_of-append}
use Rattle.model_bits.proofs.BitList.{length-bits_of}
use Rattle.model_bits.proofs.RoundTrip.{length-bits_of_number}

-- the bits of a number with another number above it
pub bits_joined : (a b x y : ℕ) → x < 2 ^ a → bits_of_number (a + b) (x + y * 2 ^ a) ≡ bits_of_number a x ++ bits_of_number b y
bits_joined zero b x y small =
    let none : x + y * 2 ^ 0 ≡ y = omega arith in
    ap (λ w. bits_of_number w (x + y * 2 ^ 0)) (zero-add b) ∙ ap (bits_of_number b) none
bits_joined (suc a) b x y small =
    let p = pow-succ' 2 a in
    let q : y * 2 ^ suc a ≡ 2 * (y * 2 ^ a) = omega (arith, ap (λ m. y * m) p) in
    let n = x + y * 2 ^ suc a in
    let k : suc a + b ≡ suc (a + b) = omega arith in
    let lowest : n % 2 ≡ x % 2 = omega (arith, q) in
    let half : n / 2 ≡ x / 2 + y * 2 ^ a = omega (arith, q) in
    let half_small : x / 2 < 2 ^ a = omega (arith, p) in
    ap (λ w. bits_of_number w n) k ∙ ap (λ m. (m == 1) ∷ bits_of_number (a + b) (n / 2)) lowest
    ∙ ap (λ bs. (x % 2 == 1) ∷ bs) (ap (bits_of_number (a + b)) half ∙ bits_joined a b (x / 2) y half_small)

-- the bits of a number in two parts
pub bits_split : (a b n : ℕ) → bits_of_number (a + b) n ≡ bits_of_number a n ++ bits_of_number b (n / 2 ^ a)
bits_split zero b n = ap (λ w. bits_of_number w n) (zero-add b) ∙ ap (bits_of_number b) (sym (div-one n))
bits_split (suc a) b n =
    let k : suc a + b ≡ suc (a + b) = omega arith in
    let e : n / 2 / 2 ^ a ≡ n / 2 ^ suc a = div-div-eq-div-mul n 2 (2 ^ a) ∙ ap (λ m. n / m) (sym (pow-succ' 2 a)) in
    ap (λ w. bits_of_number w n) k ∙ ap (λ bs. (n % 2 == 1) ∷ bs) (bits_split a b (n / 2) ∙ ap (λ m. bits_of_number a (n / 2) ++ bits_of_number b m) e)

zero_bits : (k : ℕ) → bits_of_number k 0 ≡ replicate k false
zero_bits zero = refl
zero_bits (suc k) = ap (λ bs. false ∷ bs) (zero_bits k)

-- a byte of which only some bits are used
used_and_zeros : (t h : ℕ) → t ≤ 8 → h < 2 ^ t → bits_of_number 8 h ≡ bits_of_number t h ++ replicate (8 - t) false
used_and_zeros t h within small =
    let w : 8 ≡ t + (8 - t) = omega arith in
    let none : h ≡ h + 0 * 2 ^ t = omega arith in
    ap (λ k. bits_of_number k h) w ∙ ap (bits_of_number (t + (8 - t))) none ∙ bits_joined t (8 - t) h 0 small ∙ ap (λ bs. bits_of_number t h ++ bs) (zero_bits (8 - t))

byte_at_is : (i n : ℕ) → byte_at i n ≡ n / 256 ^ i % 256
byte_at_is zero n = ap (λ m. m % 256) (sym (div-one n))
byte_at_is (suc i) n = refl

-- the bits of the low bytes of a number
low_bytes : (i k n : ℕ) → bits_of (bytes_low_first i k n) ≡ bits_of_number (8 * k) (n / 256 ^ i)
low_bytes i zero n = refl
low_bytes i (suc k) n =
    let m = n / 256 ^ i in
    let w : 8 * suc k ≡ 8 + 8 * k = omega arith in
    let whole : m ≡ m % 256 + m / 256 * 2 ^ 8 = omega arith in
    let power : 256 ^ suc i ≡ 256 ^ i * 256 = omega (arith, pow-succ' 256 i) in
    let next : n / 256 ^ suc i ≡ m / 256 = ap (λ p. n / p) power ∙ sym (div-div-eq-div-mul n (256 ^ i) 256) in
    let small : m % 256 < 2 ^ 8 = omega arith in
    ap (λ b. bits_of_number 8 b ++ bits_of (bytes_low_first (suc i) k n)) (byte_at_is i n)
    ∙ ap (λ bs. bits_of_number 8 (m % 256) ++ bs) (low_bytes (suc i) k n ∙ ap (bits_of_number (8 * k)) next)
    ∙ sym (ap (λ c. bits_of_number c m) w ∙ ap (bits_of_number (8 + 8 * k)) whole ∙ bits_joined 8 (8 * k) (m % 256) (m / 256) small)

pub length-low : (i k n : ℕ) → length (bytes_low_first i k n) ≡ k
length-low i zero n = refl
length-low i (suc k) n = ap suc (length-low (suc i) k n)

byte_there : (i k n j : ℕ) → j < k → get_or (bytes_low_first i k n) j 0 ≡ byte_at (i + j) n
byte_there i zero n j lt = absurd (omega arith)
byte_there i (suc k) n zero lt = ap (λ m. byte_at m n) (omega arith)
byte_there i (suc k) n (suc j) lt = byte_there (suc i) k n j (omega arith) ∙ ap (λ m. byte_at m n) (omega arith)

power_of_byte : (k : ℕ) → 256 ^ k ≡ 2 ^ (8 * k)
power_of_byte zero = refl
power_of_byte (suc k) =
    let w : 8 * suc k ≡ 8 + 8 * k = omega arith in
    pow-succ' 256 k ∙ ap (λ p. 256 * p) (power_of_byte k) ∙ sym (ap (λ e. 2 ^ e) w ∙ pow-add 2 8 (8 * k))

-- a number with room for another above it
pub joined_small : (a b x y : ℕ) → x < 2 ^ a → y < 2 ^ b → x + y * 2 ^ a < 2 ^ (a + b)
joined_small a b x y low high =
    let p = pow-add 2 a b in
    let m = mul-add-lt y (2 ^ a) x (2 ^ b) high low in
    omega (arith, p, m)

take_behind : (xs ys : List ℕ) (n : ℕ) → take (length xs + n) (xs ++ ys) ≡ xs ++ take n ys
take_behind [] ys n = ap (λ k. take k ys) (zero-add n)
take_behind (x ∷ xs) ys n =
    let k : suc (length xs) + n ≡ suc (length xs + n) = omega arith in
    ap (λ m. take m (x ∷ (xs ++ ys))) k ∙ ap (λ zs. x ∷ zs) (take_behind xs ys n)

-- a word of so many bits behind whole bytes, where it makes whole bytes and some bits more
module _ (front bytes : List ℕ) (end word : ℕ) (small : word < 2 ^ end) (behind : bytes ≡ front ++ bytes_low_first 0 ((end + 7) / 8) word) where
  high_small : word / 2 ^ (8 * (end / 8)) < 2 ^ (end % 8)
  high_small =
      let e : end ≡ 8 * (end / 8) + end % 8 = omega arith in
      let p : 2 ^ end ≡ 2 ^ (8 * (end / 8)) * 2 ^ (end % 8) = ap (λ n. 2 ^ n) e ∙ pow-add 2 (8 * (end / 8)) (end % 8) in
      (div-lt_iff_lt-mul (pow_pos (8 * (end / 8)))).1 (omega (arith, p, small))

  -- the byte that is not full
  pub open_is : get_or bytes (length front + end / 8) 0 ≡ word / 2 ^ (8 * (end / 8))
  open_is =
      let len = (end + 7) / 8 in
      let here : get_or bytes (length front + end / 8) 0 ≡ get_or (bytes_low_first 0 len word) (end / 8) 0 =
      ap (λ bs. get_or bs (length front + end / 8) 0) behind ∙ get_or-append-add front (bytes_low_first 0 len word) (end / 8) 0 in
      here ∙ elim (cases_lt (end / 8) len) [
        | inl there ↦
            let few : end % 8 ≤ 8 = omega arith in
            let p : 2 ^ (end % 8) ≤ 2 ^ 8 = pow_mono few in
            byte_there 0 len word (end / 8) there ∙ ap (λ m. byte_at m word) (zero-add (end / 8)) ∙ byte_at_is (end / 8) word
            ∙ ap (λ q. word / q % 256) (power_of_byte (end / 8)) ∙ mod-eq_of_lt (omega (arith, high_small, p))
        | inr past ↦
            let none : end % 8 ≡ 0 = omega arith in
            let p : 2 ^ (end % 8) ≡ 1 = ap (λ n. 2 ^ n) none in
            get_or_past (bytes_low_first 0 len word) (end / 8) 0 (omega (arith, length-low 0 len word)) ∙ omega (arith, high_small, p)
      ]

  pub open_small : get_or bytes (length front + end / 8) 0 < 2 ^ (end % 8)
  open_small = rw open_is high_small

  pub open_small_at : (byte : ℕ) → length front ≡ byte → get_or bytes (byte + end / 8) 0 < 2 ^ (end % 8)
  open_small_at byte is = rw is at open_small

  pub long : length bytes ≡ length front + end / 8 + (end % 8 + 7) / 8
  long = ap length behind ∙ length-append front (bytes_low_first 0 ((end + 7) / 8) word) ∙ omega (arith, length-low 0 ((end + 7) / 8) word)

  pub word_put : bits_of (take (length front + end / 8) bytes) ++ bits_of_number (end % 8) (get_or bytes (length front + end / 8) 0) ≡ bits_of front ++ bits_of_number end word
  word_put =
      let len = (end + 7) / 8 in
      let whole = end / 8 in
      let used = end % 8 in
      let high = word / 2 ^ (8 * whole) in
      let within : whole ≤ len = omega arith in
      let w : 8 * whole + used ≡ end = omega arith in
      let full : take (length front + whole) bytes ≡ front ++ bytes_low_first 0 whole word =
      ap (take (length front + whole)) behind ∙ take_behind front (bytes_low_first 0 len word) whole ∙ ap (λ bs. front ++ bs) (take-bytes_low_first 0 len whole word within) in
      let low : bits_of (bytes_low_first 0 whole word) ≡ bits_of_number (8 * whole) word = low_bytes 0 whole word ∙ ap (bits_of_number (8 * whole)) (div-one word) in
      let front_bits : bits_of (take (length front + whole) bytes) ≡ bits_of front ++ bits_of_number (8 * whole) word =
      ap bits_of full ∙ bits_of-append front (bytes_low_first 0 whole word) ∙ ap (λ bs. bits_of front ++ bs) low in
      ap (λ bs. bs ++ bits_of_number used (get_or bytes (length front + whole) 0)) front_bits
      ∙ ap (λ n. (bits_of front ++ bits_of_number (8 * whole) word) ++ bits_of_number used n) open_is
      ∙ append_assoc (bits_of front) (bits_of_number (8 * whole) word) (bits_of_number used high)
      ∙ ap (λ bs. bits_of front ++ bs) (sym (bits_split (8 * whole) used word) ∙ ap (λ k. bits_of_number k word) w)

-- a number moved up by fewer than eight bits has a place in a word
pub moved_up : (value t : ℕ) → value < 2 ^ 32 → t < 8 → value * 2 ^ t % 18446744073709551616 ≡ value * 2 ^ t
moved_up value t fits few =
    let most : t ≤ 7 = omega arith in
    let p : 2 ^ t ≤ 2 ^ 7 = pow_mono most in
    let m : value * 2 ^ t ≤ value * 2 ^ 7 = mul-le-mul_left value p in
    mod-eq_of_lt (omega (arith, m))

-- What a put leaves, where the word is the bits of the byte that was not full and a number above them.
pub record IsPut (old new : List ℕ) (byte t count value end : ℕ) : Type 0 where
  pub long : length new ≡ byte + end / 8 + (end % 8 + 7) / 8
  pub small : get_or new (byte + end / 8) 0 < 2 ^ (end % 8)
  pub bits : bits_of (take (byte + end / 8) new) ++ bits_of_number (end % 8) (get_or new (byte + end / 8) 0)
      ≡ (bits_of (take byte old) ++ bits_of_number t (get_or old byte 0)) ++ bits_of_number count value

pub number_put : (old new : List ℕ) (byte t count h value word len : ℕ) → byte ≤ length old → t < 8 → count ≤ 32 → h ≡ get_or old byte 0 → h < 2 ^ t → value < 2 ^ count
    → word ≡ h + value * 2 ^ t → len ≡ (t + count + 7) / 8 → new ≡ take byte old ++ take len (bytes_low_first 0 8 word)
    → IsPut old new byte t count value (t + count)
number_put old new byte t count h value word len within few most is_h low high is_word is_len is_new =
    let front = take byte old in
    let end = t + count in
    let front_len : length front ≡ byte = length-take-le byte old within in
    let small : word < 2 ^ end = rw is_word (joined_small t count h value low high) in
    let behind : new ≡ front ++ bytes_low_first 0 ((end + 7) / 8) word =
    is_new ∙ ap (λ bs. front ++ bs) (take-bytes_low_first 0 8 len word (omega arith) ∙ ap (λ k. bytes_low_first 0 k word) is_len) in
    let put : bits_of (take (length front + end / 8) new) ++ bits_of_number (end % 8) (get_or new (length front + end / 8) 0) ≡ (bits_of front ++ bits_of_number t h) ++ bits_of_number count value =
    word_put front new end word small behind ∙ ap (λ bs. bits_of front ++ bs) (ap (bits_of_number end) is_word ∙ bits_joined t count h value low)
    ∙ sym (append_assoc (bits_of front) (bits_of_number t h) (bits_of_number count value)) in
    record {
      long = long front new end word small behind ∙ ap (λ n. n + end / 8 + (end % 8 + 7) / 8) front_len;
      small = open_small_at front new end word small behind byte front_len;
      bits = ap (λ n. bits_of (take (n + end / 8) new) ++ bits_of_number (end % 8) (get_or new (n + end / 8) 0)) (sym front_len) ∙ put
          ∙ ap (λ n. (bits_of front ++ bits_of_number t n) ++ bits_of_number count value) is_h;
    }

-- the bytes of all bits that were put
module _ (bytes : List ℕ) (byte t : ℕ) (long : length bytes ≡ byte + (t + 7) / 8) (some : t < 8) (small : get_or bytes byte 0 < 2 ^ t) where
  full_len : length (bits_of (take byte bytes)) ≡ 8 * byte
  full_len = length-bits_of (take byte bytes) ∙ ap (λ n. 8 * n) (length-take-le byte bytes (omega arith))

  put_len : length (bits_of (take byte bytes) ++ bits_of_number t (get_or bytes byte 0)) ≡ 8 * byte + t
  put_len = length-append (bits_of (take byte bytes)) (bits_of_number t (get_or bytes byte 0)) ∙ omega (arith, full_len, length-bits_of_number t (get_or bytes byte 0))

  pub bytes_filled : bits_of bytes ≡ filled (bits_of (take byte bytes) ++ bits_of_number t (get_or bytes byte 0))
  bytes_filled =
      let front = bits_of (take byte bytes) in
      let h = get_or bytes byte 0 in
      let written = front ++ bits_of_number t h in
      elim (cases_lt 0 t) [
        | inl some_used ↦
            let fill : (8 - length written % 8) % 8 ≡ 8 - t = omega (arith, put_len) in
            let more : byte + 1 ≡ length bytes = omega arith in
            let split : bytes ≡ take byte bytes ++ h ∷ [] = sym (take_all (byte + 1) bytes (omega arith)) ∙ take_more bytes byte 0 (omega arith) in
            ap bits_of split ∙ bits_of-append (take byte bytes) (h ∷ []) ∙ ap (λ bs. front ++ bs) (append-nil (bits_of_number 8 h) ∙ used_and_zeros t h (omega arith) small)
            ∙ sym (append_assoc front (bits_of_number t h) (replicate (8 - t) false)) ∙ sym (ap (λ n. written ++ replicate n false) fill)
        | inr full ↦
            let none : t ≡ 0 = omega arith in
            let fill : (8 - length written % 8) % 8 ≡ 0 = omega (arith, put_len) in
            let nothing : bits_of_number t h ≡ [] = ap (λ k. bits_of_number k h) none in
            let whole : take byte bytes ≡ bytes = take_all byte bytes (omega arith) in
            sym (ap (λ n. written ++ replicate n false) fill ∙ append-nil written ∙ ap (λ bs. front ++ bs) nothing ∙ append-nil front ∙ ap bits_of whole)
      ]
