-- How values of two sides are mixed.
use Rattle.std.proofs.Common.{◌≡◌, ℕ, zero, suc, ◌+◌, ◌-◌, ◌*◌, ◌/◌, ◌%◌, ◌^◌, ◌≤◌, ◌<◌, inl, inr, ℤ, pos, negsuc, ◌+ℤ◌, ◌*ℤ◌, ◌≤ℤ◌, neg_ℤ, List, [], ◌∷◌, ◌++◌, length, drop, get_or, refl, ap, sym, ◌∙◌, arith, append_assoc, append-nil, to_z, of_z, length-append}
use Rattle.std.specs.Prelude.{◌<ℤ◌, replicate, unsigned_abs}
use Rattle.std.specs.Int.{int_shr}
use Rattle.std.proofs.lemmas.Bool.{cases_lt}
use Rattle.std.proofs.lemmas.Int.{ints, to_z-of_z, fits_signed_from_abs, unsigned_abs-mul}
use Rattle.std.proofs.lemmas.List.{drop_all, get_or_past, length-replicate}
use Rattle.std.proofs.lemmas.List.Concat.{flat_map-append}
use Rattle.std.proofs.lemmas.Nat.{pow_pos}
use Rattle.std.proofs.Math.Nat.{mul-le-mul, div-lt_iff_lt-mul, div-le_of_le-mul}
use mir.Syntax.{w64, w128}
use mir.Val.{SFits}
use lib.Signed.{mag}
use Rattle.model_synthesis.specs.Tables.{ConstantTables}
use Rattle.model_line.specs.Blocks.{Frame}
use Rattle.model_cursor.specs.FrameLists.{values_of}
use Rattle.model_cursor.specs.Splices.{weight, mixed, mixed_frame, mixed_from}
use Rattle.cursor.proofs.PortionSteps.{front}

-- ---- sums of 128 bits, and their quotients of 64

scaled_high : (h m : ℕ) (a : ℤ) → mag a < h → ((a *ℤ pos m) +ℤ pos m) ≤ℤ pos (h * m)
scaled_high h m (pos x) less = let all : suc x * m ≤ h * m = mul-le-mul less (omega arith) in omega (arith, ints)
scaled_high h m (negsuc x) less = omega (arith, ints)

scaled_low : (h m : ℕ) (a : ℤ) → mag a < h → neg_ℤ (pos (h * m)) ≤ℤ (a *ℤ pos m)
scaled_low h m (pos x) less = omega (arith, ints)
scaled_low h m (negsuc x) less = let all : suc x * m ≤ h * m = mul-le-mul less (omega arith) in omega (arith, ints)

between : (n : ℕ) (z : ℤ) → neg_ℤ (pos n) ≤ℤ z → z <ℤ pos n → mag z < n
between n (pos x) low high = omega (arith, ints)
between n (negsuc x) low high = omega (arith, ints)

sum_within : (h m r : ℕ) (a b : ℤ) → mag a < h → mag b < h → 0 < m + r → mag ((a *ℤ pos m) +ℤ (b *ℤ pos r)) < h * (m + r)
sum_within h m r a b la lb some =
    let ah = scaled_high h m a la in
    let bh = scaled_high h r b lb in
    let al = scaled_low h m a la in
    let bl = scaled_low h r b lb in
    between (h * (m + r)) ((a *ℤ pos m) +ℤ (b *ℤ pos r)) (omega (arith, ints)) (omega (arith, ints))

quotient_within : (h k : ℕ) (z : ℤ) → mag z < h * 2 ^ k → mag (int_shr z k) < h
quotient_within h k (pos n) less = (div-lt_iff_lt-mul (pow_pos k)).1 less
quotient_within h k (negsuc n) less = (div-lt_iff_lt-mul (pow_pos k)).1 less

-- a whole number that fits 128 bits, as the code has it
abbrev pub kept : ℤ → ℤ
kept z = to_z w128 (of_z w128 z)

kept_small : (z : ℤ) → unsigned_abs z ≤ 2 ^ 100 → kept z ≡ z
kept_small z small = to_z-of_z w128 z (fits_signed_from_abs w128 z (omega arith))

-- ---- the values of a frame

mixed_front : (tables : ConstantTables) (w : ℕ) (old : List ℤ) (i : ℕ) (v : ℤ) (rest : List ℤ) → mixed_frame tables w (drop i old) (v ∷ rest) ≡ mixed tables w (get_or old i (pos 0)) v ∷ mixed_frame tables w (drop (i + 1) old) rest
unfolding mixed_frame
mixed_front tables w old i v rest = elim (cases_lt i (length old)) [
  | inl lt ↦ rw (front old i (pos 0) (get_or old i (pos 0)) lt refl) refl
  | inr le ↦ rw (drop_all i old le, drop_all (i + 1) old (omega arith), get_or_past old i (pos 0) le) refl
]

pub channel_mixed : (tables : ConstantTables) (w : ℕ) (old new : List ℤ) (i : ℕ) (d v m : ℤ) (now more total : List ℤ) → i < length new → get_or new i d ≡ v → m ≡ mixed tables w (get_or old i (pos 0)) v → more ≡ now ++ m ∷ [] → now ++ mixed_frame tables w (drop i old) (drop i new) ≡ total
    → more ++ mixed_frame tables w (drop (i + 1) old) (drop (i + 1) new) ≡ total
channel_mixed tables w old new i d v m now more total lt v-is m-is more-is h =
    let here = rw (front new i d v lt v-is, mixed_front tables w old i v (drop (i + 1) new)) at h in
    rw (more-is, m-is) (append_assoc now (mixed tables w (get_or old i (pos 0)) v ∷ []) (mixed_frame tables w (drop (i + 1) old) (drop (i + 1) new)) ∙ here)

pub channels_end : (tables : ConstantTables) (w : ℕ) (old new : List ℤ) (i : ℕ) (now total : List ℤ) → length new ≤ i → now ++ mixed_frame tables w (drop i old) (drop i new) ≡ total → now ≡ total
unfolding mixed_frame
channels_end tables w old new i now total le h = sym (append-nil now) ∙ none_left (drop i old) (rw (drop_all i new le) at h)
  where
    none_left : (s : List ℤ) → now ++ mixed_frame tables w s [] ≡ total → now ++ [] ≡ total
    none_left [] e = e
    none_left (x ∷ s) e = e

-- ---- the frames of a splice

-- the old side of a splice of so many frames, of which these are given
abbrev pub filled : ℕ → List Frame → List Frame
filled frames given = given ++ replicate (frames - length given) []

silent : (n i : ℕ) → get_or {A = Frame} (replicate n []) i [] ≡ get_or {A = Frame} [] i []
silent zero i = refl
silent (suc n) zero = refl
silent (suc n) (suc i) = silent n i

filled_at : (frames : ℕ) (given : List Frame) (i : ℕ) → get_or (filled frames given) i [] ≡ get_or given i []
filled_at frames [] i = silent (frames - 0) i
filled_at frames (f ∷ given) zero = refl
filled_at zero (f ∷ given) (suc i) = let e : 0 - suc (length given) ≡ 0 - length given = omega arith in rw e (filled_at zero given i)
filled_at (suc frames) (f ∷ given) (suc i) = let e : suc frames - suc (length given) ≡ frames - length given = omega arith in rw e (filled_at frames given i)

length-filled : (frames : ℕ) (given : List Frame) → frames ≤ length (filled frames given)
length-filled frames given = omega (arith, length-append given (replicate (frames - length given) []), length-replicate {A = Frame} (frames - length given) [])

pub frame_mixed : (tables : ConstantTables) (frames i w : ℕ) (given new : List Frame) (before after : Frame) (now more total : List ℤ) → i < length new → length new ≤ frames → before ≡ get_or given i [] → after ≡ get_or new i [] → w ≡ weight tables frames i → more ≡ now ++ mixed_frame tables w before after
    → now ++ values_of (mixed_from tables frames i (drop i (filled frames given)) (drop i new)) ≡ total → more ++ values_of (mixed_from tables frames (i + 1) (drop (i + 1) (filled frames given)) (drop (i + 1) new)) ≡ total
unfolding mixed_from
frame_mixed tables frames i w given new before after now more total lt le before-is after-is w-is more-is h =
    let old : List Frame = filled frames given in
    let enough = length-filled frames given in
    let rest : List Frame = mixed_from tables frames (i + 1) (drop (i + 1) old) (drop (i + 1) new) in
    let first : get_or old i [] ≡ before = filled_at frames given i ∙ sym before-is in
    let here = rw (front old i [] before (omega arith) first, front new i [] after lt (sym after-is), flat_map-append (λ (x : Frame). x) (mixed_frame tables (weight tables frames i) before after ∷ []) rest, append-nil (mixed_frame tables (weight tables frames i) before after)) at h in
    rw (more-is, w-is) (append_assoc now (mixed_frame tables (weight tables frames i) before after) (values_of rest) ∙ here)

pub frames_end : (tables : ConstantTables) (frames i : ℕ) (old new : List Frame) (now total : List ℤ) → length new ≤ i → now ++ values_of (mixed_from tables frames i (drop i old) (drop i new)) ≡ total → now ≡ total
unfolding mixed_from
frames_end tables frames i old new now total le h = sym (append-nil now) ∙ no_new (drop i old) (rw (drop_all i new le) at h)
  where
    no_new : (ss : List Frame) → now ++ values_of (mixed_from tables frames i ss []) ≡ total → now ++ [] ≡ total
    no_new [] e = e
    no_new (s ∷ ss) e = e

-- ---- a mixed value, as the code has it

abs_mag : (z : ℤ) → unsigned_abs z ≤ mag z + 1
abs_mag (pos n) = omega arith
abs_mag (negsuc n) = omega arith

product_small : (z : ℤ) (n : ℕ) → mag z < 2 ^ 63 → n ≤ 2 ^ 23 → unsigned_abs (z *ℤ pos n) ≤ 2 ^ 63 * 2 ^ 23
product_small z n less few =
    let size = abs_mag z in
    let small : unsigned_abs z ≤ 2 ^ 63 = omega arith in
    rw (unsigned_abs-mul z (pos n)) (mul-le-mul small few)

fits_64 : (z : ℤ) → mag z < 2 ^ 63 → SFits w64 z
fits_64 z less = record { sfits = less }

-- the sum, before the shift
abbrev pub summed : ℤ → ℤ → ℤ → ℤ → ℤ
summed a m b r = kept (kept a *ℤ kept m) +ℤ kept (kept b *ℤ kept r)

pub record IsMixed (tables : ConstantTables) (w : ℕ) (old new a m b r : ℤ) (scale : ℕ) : Type 0 where
  pub sum : SFits w128 (summed a m b r)
  pub quotient : SFits w64 (kept (int_shr (kept (summed a m b r)) scale))
  pub value : to_z w64 (of_z w64 (kept (int_shr (kept (summed a m b r)) scale))) ≡ mixed tables w old new

summed_is : (old new a m b r : ℤ) (w s : ℕ) → mag old < 2 ^ 63 → mag new < 2 ^ 63 → w ≤ 2 ^ 23 → s ≤ 2 ^ 23 → a ≡ new → m ≡ pos w → b ≡ old → r ≡ pos s → summed a m b r ≡ (new *ℤ pos w) +ℤ (old *ℤ pos s)
summed_is old new a m b r w s lo ln lw ls a-is m-is b-is r-is =
    let size_old = abs_mag old in
    let size_new = abs_mag new in
    let new_kept : kept new ≡ new = kept_small new (omega arith) in
    let old_kept : kept old ≡ old = kept_small old (omega arith) in
    let w_kept : kept (pos w) ≡ pos w = kept_small (pos w) (omega arith) in
    let s_kept : kept (pos s) ≡ pos s = kept_small (pos s) (omega arith) in
    let first = product_small new w ln lw in
    let second = product_small old s lo ls in
    let first_kept : kept (new *ℤ pos w) ≡ new *ℤ pos w = kept_small (new *ℤ pos w) (omega (arith, first)) in
    let second_kept : kept (old *ℤ pos s) ≡ old *ℤ pos s = kept_small (old *ℤ pos s) (omega (arith, second)) in
    ap (λ (z : ℤ). summed z m b r) a-is
    ∙ ap (λ (z : ℤ). summed new z b r) m-is
    ∙ ap (λ (z : ℤ). summed new (pos w) z r) b-is
    ∙ ap (λ (z : ℤ). summed new (pos w) old z) r-is
    ∙ ap (λ (z : ℤ). kept (z *ℤ kept (pos w)) +ℤ kept (kept old *ℤ kept (pos s))) new_kept
    ∙ ap (λ (z : ℤ). kept (new *ℤ z) +ℤ kept (kept old *ℤ kept (pos s))) w_kept
    ∙ ap (λ (z : ℤ). z +ℤ kept (kept old *ℤ kept (pos s))) first_kept
    ∙ ap (λ (z : ℤ). (new *ℤ pos w) +ℤ kept (z *ℤ kept (pos s))) old_kept
    ∙ ap (λ (z : ℤ). (new *ℤ pos w) +ℤ kept (old *ℤ z)) s_kept
    ∙ ap (λ (z : ℤ). (new *ℤ pos w) +ℤ z) second_kept

pub is_mixed : (tables : ConstantTables) (w : ℕ) (old new a m b r : ℤ) (scale : ℕ) → SFits w64 old → SFits w64 new → w ≤ 2 ^ tables.scale → scale ≡ tables.scale → scale ≡ 23 → a ≡ to_z w64 (of_z w64 new) → m ≡ pos w → b ≡ to_z w64 (of_z w64 old) → r ≡ pos (1 * 2 ^ scale % 2 ^ 32 - w)
    → IsMixed tables w old new a m b r scale
is_mixed tables w old new a m b r scale fits_old fits_new lw same set a-is m-is b-is r-is =
    let of_scale : tables.scale ≡ 23 = sym same ∙ set in
    let few : w ≤ 2 ^ 23 = rw of_scale at lw in
    let s : ℕ = 2 ^ 23 - w in
    let rest : r ≡ pos s = r-is ∙ ap (λ (k : ℕ). pos (1 * 2 ^ k % 2 ^ 32 - w)) set in
    let z : ℤ = (new *ℤ pos w) +ℤ (old *ℤ pos s) in
    let sum : summed a m b r ≡ z = summed_is old new a m b r w s fits_old.sfits fits_new.sfits few (omega arith) (a-is ∙ to_z-of_z w64 new fits_new) m-is (b-is ∙ to_z-of_z w64 old fits_old) rest in
    let whole : w + s ≡ 2 ^ 23 = omega arith in
    let within : mag z < 2 ^ 63 * 2 ^ 23 = rw whole at (sum_within (2 ^ 63) w s new old fits_new.sfits fits_old.sfits (omega arith)) in
    let small : mag (int_shr z 23) < 2 ^ 63 = quotient_within (2 ^ 63) 23 z within in
    let size = abs_mag z in
    let quotient_size = abs_mag (int_shr z 23) in
    let z_kept : kept z ≡ z = kept_small z (omega (arith, within)) in
    let quotient_kept : kept (int_shr z 23) ≡ int_shr z 23 = kept_small (int_shr z 23) (omega arith) in
    let shifted : kept (int_shr (kept (summed a m b r)) scale) ≡ int_shr z 23 =
    ap (λ (k : ℕ). kept (int_shr (kept (summed a m b r)) k)) set
    ∙ ap (λ (y : ℤ). kept (int_shr (kept y) 23)) sum
    ∙ ap (λ (y : ℤ). kept (int_shr y 23)) z_kept
    ∙ quotient_kept in
    record {
      sum = rw sum (fits_signed_from_abs w128 z (omega (arith, within)));
      quotient = rw shifted (fits_64 (int_shr z 23) small);
      value =
          ap (λ (y : ℤ). to_z w64 (of_z w64 y)) shifted
          ∙ to_z-of_z w64 (int_shr z 23) (fits_64 (int_shr z 23) small)
          ∙ ap (λ (k : ℕ). int_shr ((new *ℤ pos w) +ℤ (old *ℤ pos (2 ^ k - w))) k) (sym of_scale);
    }

-- ---- a weight

pub weight_small : (slope n scale : ℕ) → slope ≤ 2 ^ scale → slope * slope / 2 ^ scale ≤ 2 ^ scale
weight_small slope n scale le = let all : slope * slope ≤ 2 ^ scale * 2 ^ scale = mul-le-mul le le in div-le_of_le-mul (2 ^ scale) all
