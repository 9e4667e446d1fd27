-- A straight line that is drawn line by line.
use Rattle.std.proofs.Common.{◌≡◌, ℕ, ◌+◌, ◌-◌, ◌*◌, ◌/◌, ◌%◌, ◌^◌, ◌<◌, ◌≤◌, ℤ, pos, ◌+ℤ◌, ◌-ℤ◌, neg_ℤ, unsigned_abs, Bool, true, false, cond, inl, inr, refl, ap, sym, ◌∙◌, arith}
use Rattle.std.specs.Prelude.{int_lt}
use Rattle.std.proofs.lemmas.Int.{ints}
use Rattle.std.proofs.lemmas.Bool.{cases_lt}
use Rattle.std.proofs.lemmas.Nat.{div-mul-add, div-add-mod'}
use Rattle.std.proofs.Math.Nat.{mul-le-mul_left, mul-le-mul_right, div-le_self}
use Rattle.model_setup.specs.FloorCurve.{render_point}

-- a height that is so many steps from the first toward the second
abbrev pub toward : Bool → ℤ → ℕ → ℤ
toward falls y n = cond falls (y -ℤ pos n) (y +ℤ pos n)

abbrev pub signed : Bool → ℕ → ℤ
signed falls n = cond falls (neg_ℤ (pos n)) (pos n)

-- the pen stands on the line that rises or falls by so much over a width
pub record IsOn (falls : Bool) (y : ℤ) (rise width k : ℕ) (height : ℤ) (error : ℕ) : Type 0 where
  pub whole : ℕ
  pub is : height ≡ toward falls y whole
  pub counted : whole * width + error ≡ rise * k
  pub below : error < width

pub is_on_line : (x0 : ℕ) (y0 : ℤ) (x1 : ℕ) (y1 : ℤ) (x : ℕ) (height : ℤ) (error : ℕ) → IsOn (int_lt y1 y0) y0 (unsigned_abs (y1 -ℤ y0)) (x1 - x0) (x - x0) height error → height ≡ render_point x0 y0 x1 y1 x
unfolding render_point
is_on_line x0 y0 x1 y1 x height error on =
    on.is ∙ ap (toward (int_lt y1 y0) y0) (sym (div-mul-add on.whole (x1 - x0) error on.below) ∙ ap (λ n. n / (x1 - x0)) on.counted)

pub begins : (falls : Bool) (y : ℤ) (rise width k : ℕ) (height : ℤ) → 0 < width → k ≡ 0 → height ≡ y → IsOn falls y rise width k height 0
begins falls y rise width k height some e h = record { whole = 0; is = h ∙ still falls y; counted = let f : rise * k ≡ rise * 0 = ap (λ n. rise * n) e in omega arith; below = some }
  where
    still : (falls : Bool) (y : ℤ) → y ≡ toward falls y 0
    still true y = omega (arith, ints)
    still false y = omega (arith, ints)

goes_on : (falls : Bool) (y height base height' : ℤ) (m n : ℕ) → height ≡ toward falls y m → base ≡ signed falls n → height' ≡ height +ℤ base → height' ≡ toward falls y (m + n)
goes_on true y height base height' m n h b e = omega (arith, ints)
goes_on false y height base height' m n h b e = omega (arith, ints)

count_more : (m q width error remainder rise k j error' : ℕ) → m * width + error ≡ rise * k → q * width + remainder ≡ rise → j ≡ k + 1 → error' ≡ error + remainder → (m + q) * width + error' ≡ rise * j
count_more m q width error remainder rise k j error' h s e f =
    let g : rise * j ≡ rise * (k + 1) = ap (λ n. rise * n) e in
    omega arith

count_one_more : (m q width error remainder rise k j error' : ℕ) → m * width + error ≡ rise * k → q * width + remainder ≡ rise → j ≡ k + 1 → error' + width ≡ error + remainder → (m + q + 1) * width + error' ≡ rise * j
count_one_more m q width error remainder rise k j error' h s e f =
    let g : rise * j ≡ rise * (k + 1) = ap (λ n. rise * n) e in
    omega arith

pub steps_on : (falls : Bool) (y : ℤ) (rise width k j : ℕ) (height base direction height' : ℤ) (error remainder error' : ℕ)
    → IsOn falls y rise width k height error → j ≡ k + 1
    → base ≡ signed falls (rise / width) → direction ≡ signed falls 1 → remainder ≡ rise % width
    → (error + remainder < width → height' ≡ height +ℤ base) → (error + remainder < width → error' ≡ error + remainder)
    → (width ≤ error + remainder → height' ≡ (height +ℤ base) +ℤ direction) → (width ≤ error + remainder → error' + width ≡ error + remainder)
    → IsOn falls y rise width j height' error'
steps_on falls y rise width k j height base direction height' error remainder error' on e b d r same same_error more more_error =
    let split : rise / width * width + remainder ≡ rise = ap (λ n. rise / width * width + n) r ∙ div-add-mod' rise width in
    elim (cases_lt (error + remainder) width) [
      | inl l ↦ record {
        whole = on.whole + rise / width;
        is = goes_on falls y height base height' on.whole (rise / width) on.is b (same l);
        counted = count_more on.whole (rise / width) width error remainder rise k j error' on.counted split e (same_error l);
        below = let f : error' ≡ error + remainder = same_error l in omega arith;
      }
      | inr l ↦ record {
        whole = on.whole + rise / width + 1;
        is = goes_on falls y (height +ℤ base) direction height' (on.whole + rise / width) 1 (goes_on falls y height base (height +ℤ base) on.whole (rise / width) on.is b refl) d (more l);
        counted = count_one_more on.whole (rise / width) width error remainder rise k j error' on.counted split e (more_error l);
        below = let f : error' + width ≡ error + remainder = more_error l in let g = on.below in omega (arith, below_width rise width);
      }
    ]
  where
    below_width : (a b : ℕ) → 0 < b → a % b < b
    below_width a b h = omega arith

small : (falls : Bool) (y : ℤ) (m n : ℕ) → unsigned_abs y + m ≤ n → unsigned_abs (toward falls y m) ≤ n
small true y m n h = omega (arith, ints)
small false y m n h = omega (arith, ints)

pub stays_small : (falls : Bool) (y : ℤ) (rise width k : ℕ) (height : ℤ) (error : ℕ) → IsOn falls y rise width k height error → k ≤ width → rise ≤ 2 ^ 28 → unsigned_abs y ≤ 2 ^ 27 → unsigned_abs height ≤ 2 ^ 30
stays_small falls y rise width k height error on l r s =
    elim (cases_lt rise on.whole) [
      | inl high ↦
          let p : (rise + 1) * width ≤ on.whole * width = mul-le-mul_right width (omega arith) in
          let q : rise * k ≤ rise * width = mul-le-mul_left rise l in
          let c = on.counted in
          let b = on.below in
          absurd (omega arith)
      | inr low ↦ let h : unsigned_abs (toward falls y on.whole) ≤ 2 ^ 30 = small falls y on.whole (2 ^ 30) (omega arith) in rw on.is h
    ]

pub rise_small : (y0 y1 : ℤ) → unsigned_abs y0 ≤ 2 ^ 27 → unsigned_abs y1 ≤ 2 ^ 27 → unsigned_abs (y1 -ℤ y0) ≤ 2 ^ 28
rise_small y0 y1 a b = omega (arith, ints)

pub base_small : (falls : Bool) (rise width : ℕ) (base : ℤ) → base ≡ signed falls (rise / width) → rise ≤ 2 ^ 28 → unsigned_abs base ≤ 2 ^ 28
base_small falls rise width base b r = rw b (signed_small falls (rise / width) (omega (arith, div-le_self rise width)))
  where
    signed_small : (falls : Bool) (n : ℕ) → n ≤ 2 ^ 28 → unsigned_abs (signed falls n) ≤ 2 ^ 28
    signed_small true n h = omega (arith, ints)
    signed_small false n h = h
