-- The slopes of any number of frames.
use Rattle.std.proofs.Common.{◌≡◌, ℕ, zero, suc, ◌+◌, ◌/◌, ◌^◌, ◌≤◌, ◌<◌, max, refl, sym, arith, length}
use Rattle.std.specs.Int.{IsPowerOfTwo}
use Rattle.std.proofs.lemmas.Bool.{lt-ltb, le-ltb}
use Rattle.std.proofs.lemmas.List.{get_or_past}
use Rattle.std.proofs.Math.Pow.{pow_mono}
use Rattle.model_synthesis.specs.declared.constants.TheConstants.{SLOPE_COUNT}
use Rattle.model_synthesis.specs.Tables.{ConstantTables, AreTables, IsSlopeSize, slopes_before, slope}

-- ---- how many values stand before a slope

before_32 : (n : ℕ) → n ≤ 32 → slopes_before n ≡ slopes_before 32
before_32 n below = rw (le-ltb 32 n (omega arith), le-ltb 64 n (omega arith), le-ltb 128 n (omega arith), le-ltb 256 n (omega arith), le-ltb 512 n (omega arith), le-ltb 1024 n (omega arith), le-ltb 2048 n (omega arith), le-ltb 4096 n (omega arith)) refl

before_64 : (n : ℕ) → 32 < n → n ≤ 64 → slopes_before n ≡ slopes_before 64
before_64 n above below = rw (lt-ltb 32 n (omega arith), le-ltb 64 n (omega arith), le-ltb 128 n (omega arith), le-ltb 256 n (omega arith), le-ltb 512 n (omega arith), le-ltb 1024 n (omega arith), le-ltb 2048 n (omega arith), le-ltb 4096 n (omega arith)) refl

before_128 : (n : ℕ) → 64 < n → n ≤ 128 → slopes_before n ≡ slopes_before 128
before_128 n above below = rw (lt-ltb 32 n (omega arith), lt-ltb 64 n (omega arith), le-ltb 128 n (omega arith), le-ltb 256 n (omega arith), le-ltb 512 n (omega arith), le-ltb 1024 n (omega arith), le-ltb 2048 n (omega arith), le-ltb 4096 n (omega arith)) refl

before_256 : (n : ℕ) → 128 < n → n ≤ 256 → slopes_before n ≡ slopes_before 256
before_256 n above below = rw (lt-ltb 32 n (omega arith), lt-ltb 64 n (omega arith), lt-ltb 128 n (omega arith), le-ltb 256 n (omega arith), le-ltb 512 n (omega arith), le-ltb 1024 n (omega arith), le-ltb 2048 n (omega arith), le-ltb 4096 n (omega arith)) refl

before_512 : (n : ℕ) → 256 < n → n ≤ 512 → slopes_before n ≡ slopes_before 512
before_512 n above below = rw (lt-ltb 32 n (omega arith), lt-ltb 64 n (omega arith), lt-ltb 128 n (omega arith), lt-ltb 256 n (omega arith), le-ltb 512 n (omega arith), le-ltb 1024 n (omega arith), le-ltb 2048 n (omega arith), le-ltb 4096 n (omega arith)) refl

before_1024 : (n : ℕ) → 512 < n → n ≤ 1024 → slopes_before n ≡ slopes_before 1024
before_1024 n above below = rw (lt-ltb 32 n (omega arith), lt-ltb 64 n (omega arith), lt-ltb 128 n (omega arith), lt-ltb 256 n (omega arith), lt-ltb 512 n (omega arith), le-ltb 1024 n (omega arith), le-ltb 2048 n (omega arith), le-ltb 4096 n (omega arith)) refl

before_2048 : (n : ℕ) → 1024 < n → n ≤ 2048 → slopes_before n ≡ slopes_before 2048
before_2048 n above below = rw (lt-ltb 32 n (omega arith), lt-ltb 64 n (omega arith), lt-ltb 128 n (omega arith), lt-ltb 256 n (omega arith), lt-ltb 512 n (omega arith), lt-ltb 1024 n (omega arith), le-ltb 2048 n (omega arith), le-ltb 4096 n (omega arith)) refl

before_4096 : (n : ℕ) → 2048 < n → n ≤ 4096 → slopes_before n ≡ slopes_before 4096
before_4096 n above below = rw (lt-ltb 32 n (omega arith), lt-ltb 64 n (omega arith), lt-ltb 128 n (omega arith), lt-ltb 256 n (omega arith), lt-ltb 512 n (omega arith), lt-ltb 1024 n (omega arith), lt-ltb 2048 n (omega arith), le-ltb 4096 n (omega arith)) refl

before_past : (n : ℕ) → 4096 < n → slopes_before n ≡ 8160
before_past n past = rw (lt-ltb 32 n (omega arith), lt-ltb 64 n (omega arith), lt-ltb 128 n (omega arith), lt-ltb 256 n (omega arith), lt-ltb 512 n (omega arith), lt-ltb 1024 n (omega arith), lt-ltb 2048 n (omega arith), lt-ltb 4096 n (omega arith)) refl

-- behind the longest slope no value is left
pub slope_past : (tables : ConstantTables) (n place : ℕ) → AreTables tables → 4096 < n → 0 ≡ slope tables n place
slope_past tables n place right past =
    let before = before_past n past in
    let count : length tables.slopes ≡ SLOPE_COUNT = right.slope_count in
    sym (get_or_past tables.slopes (slopes_before n + place) 0 (omega arith))

-- ---- the next longer slope

pub record IsNextSlope (n size : ℕ) : Type 0 where
  pub size_of : IsSlopeSize size
  pub before : slopes_before size ≡ slopes_before n
  pub fits : n ≤ size

shortest : (n p : ℕ) → n ≤ p → p ≤ 32 → IsNextSlope n (max p 32)
shortest n p le few =
    let same : max p 32 ≡ 32 = omega arith in
    rw same (record {
      size_of = record { exponent = 5; at_least_32 = omega arith; at_most_4096 = omega arith; is_power = refl };
      before = sym (before_32 n (omega arith));
      fits = omega arith;
    })

longer_64 : (n : ℕ) → n ≤ 64 → 32 < max 1 n → IsNextSlope n (max 64 32)
longer_64 n le above = record {
  size_of = record { exponent = 6; at_least_32 = omega arith; at_most_4096 = omega arith; is_power = refl };
  before = sym (before_64 n (omega arith) le);
  fits = le;
}

longer_128 : (n : ℕ) → n ≤ 128 → 64 < max 1 n → IsNextSlope n (max 128 32)
longer_128 n le above = record {
  size_of = record { exponent = 7; at_least_32 = omega arith; at_most_4096 = omega arith; is_power = refl };
  before = sym (before_128 n (omega arith) le);
  fits = le;
}

longer_256 : (n : ℕ) → n ≤ 256 → 128 < max 1 n → IsNextSlope n (max 256 32)
longer_256 n le above = record {
  size_of = record { exponent = 8; at_least_32 = omega arith; at_most_4096 = omega arith; is_power = refl };
  before = sym (before_256 n (omega arith) le);
  fits = le;
}

longer_512 : (n : ℕ) → n ≤ 512 → 256 < max 1 n → IsNextSlope n (max 512 32)
longer_512 n le above = record {
  size_of = record { exponent = 9; at_least_32 = omega arith; at_most_4096 = omega arith; is_power = refl };
  before = sym (before_512 n (omega arith) le);
  fits = le;
}

longer_1024 : (n : ℕ) → n ≤ 1024 → 512 < max 1 n → IsNextSlope n (max 1024 32)
longer_1024 n le above = record {
  size_of = record { exponent = 10; at_least_32 = omega arith; at_most_4096 = omega arith; is_power = refl };
  before = sym (before_1024 n (omega arith) le);
  fits = le;
}

longer_2048 : (n : ℕ) → n ≤ 2048 → 1024 < max 1 n → IsNextSlope n (max 2048 32)
longer_2048 n le above = record {
  size_of = record { exponent = 11; at_least_32 = omega arith; at_most_4096 = omega arith; is_power = refl };
  before = sym (before_2048 n (omega arith) le);
  fits = le;
}

longer_4096 : (n : ℕ) → n ≤ 4096 → 2048 < max 1 n → IsNextSlope n (max 4096 32)
longer_4096 n le above = record {
  size_of = record { exponent = 12; at_least_32 = omega arith; at_most_4096 = omega arith; is_power = refl };
  before = sym (before_4096 n (omega arith) le);
  fits = le;
}

next_by : (k n : ℕ) → n ≤ 2 ^ k → 2 ^ k / 2 < max 1 n → n ≤ 4096 → IsNextSlope n (max (2 ^ k) 32)
next_by zero n le above most = shortest n 1 le (omega arith)
next_by (suc zero) n le above most = shortest n 2 le (omega arith)
next_by (suc (suc zero)) n le above most = shortest n 4 le (omega arith)
next_by (suc (suc (suc zero))) n le above most = shortest n 8 le (omega arith)
next_by (suc (suc (suc (suc zero)))) n le above most = shortest n 16 le (omega arith)
next_by (suc (suc (suc (suc (suc zero))))) n le above most = shortest n 32 le (omega arith)
next_by (suc (suc (suc (suc (suc (suc zero)))))) n le above most = longer_64 n le above
next_by (suc (suc (suc (suc (suc (suc (suc zero))))))) n le above most = longer_128 n le above
next_by (suc (suc (suc (suc (suc (suc (suc (suc zero)))))))) n le above most = longer_256 n le above
next_by (suc (suc (suc (suc (suc (suc (suc (suc (suc zero))))))))) n le above most = longer_512 n le above
next_by (suc (suc (suc (suc (suc (suc (suc (suc (suc (suc zero)))))))))) n le above most = longer_1024 n le above
next_by (suc (suc (suc (suc (suc (suc (suc (suc (suc (suc (suc zero))))))))))) n le above most = longer_2048 n le above
next_by (suc (suc (suc (suc (suc (suc (suc (suc (suc (suc (suc (suc zero)))))))))))) n le above most = longer_4096 n le above
next_by (suc (suc (suc (suc (suc (suc (suc (suc (suc (suc (suc (suc (suc k))))))))))))) n le above most = let more : 13 ≤ (suc (suc (suc (suc (suc (suc (suc (suc (suc (suc (suc (suc (suc k))))))))))))) = omega arith in let many : 2 ^ 13 ≤ 2 ^ (suc (suc (suc (suc (suc (suc (suc (suc (suc (suc (suc (suc (suc k))))))))))))) = pow_mono more in absurd (omega arith)

pub next_slope : (n p : ℕ) → IsPowerOfTwo p → n ≤ p → p / 2 < max 1 n → n ≤ 4096 → IsNextSlope n (max p 32)
next_slope n p (k, is) le above most = rw is (next_by k n (rw (sym is) le) (rw (sym is) above) most)
