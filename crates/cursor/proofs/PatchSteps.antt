-- Frames that are taken away from the front of a patch.
use Rattle.std.proofs.Common.{◌≡◌, ℕ, zero, suc, ◌+◌, ◌-◌, ◌*◌, ◌/◌, ◌≤◌, ◌<◌, min, List, length, drop, refl, ap, sym, ◌∙◌, arith, ℤ, length-drop}
use Rattle.std.proofs.lemmas.List.{drop-drop, drop_min}
use Rattle.std.proofs.Math.Nat.{mul-div_cancel}
use Rattle.model_cursor.specs.FrameLists.{parts_of, frames_in}
use Rattle.model_cursor.proofs.Parts.{length-parts_of}

parts-drop : {A : Type 0} (n count size : ℕ) (xs : List A) → drop count (parts_of n size xs) ≡ parts_of (n - count) size (drop (count * size) xs)
unfolding parts_of
parts-drop n zero size xs = let e : 0 * size ≡ 0 = omega arith in let f : n - 0 ≡ n = omega arith in rw (e, f) refl
parts-drop zero (suc count) size xs = let e : 0 - suc count ≡ 0 = omega arith in rw e refl
parts-drop (suc n) (suc count) size xs =
    let e : size + count * size ≡ suc count * size = omega arith in
    let f : suc n - suc count ≡ n - count = omega arith in
    parts-drop n count size (drop size xs) ∙ rw f (ap (λ ys. parts_of (n - count) size ys) (drop-drop (count * size) size xs ∙ ap (λ (k : ℕ). drop k xs) e))

-- values of whole frames without the first ones
pub record AreLeft (channels count : ℕ) (values : List ℤ) : Type 0 where
  pub few : count * channels ≤ length values
  pub whole : length (drop (count * channels) values) ≡ length (drop (count * channels) values) / channels * channels
  pub frames : frames_in channels (drop (count * channels) values) ≡ drop count (frames_in channels values)

pub left_behind : (channels count : ℕ) (values : List ℤ) → 0 < channels → length values ≡ length values / channels * channels → count ≤ length values / channels → AreLeft channels count values
left_behind channels count values some whole le =
    let n : ℕ = length values / channels in
    let d : ℕ = n - count in
    let split : n ≡ count + d = omega arith in
    let all : length values ≡ (count + d) * channels = whole ∙ ap (λ (k : ℕ). k * channels) split in
    let left : length (drop (count * channels) values) ≡ d * channels = omega (arith, length-drop (count * channels) values) in
    let counted : length (drop (count * channels) values) / channels ≡ d = ap (λ (k : ℕ). k / channels) left ∙ mul-div_cancel d some in
    record {
      few = omega arith;
      whole = left ∙ ap (λ (k : ℕ). k * channels) (sym counted);
      frames = ap (λ (k : ℕ). parts_of k channels (drop (count * channels) values)) counted ∙ sym (parts-drop n count channels values);
    }

-- the same of values without the first ones, which were used up
pub passed_on : (channels used count moved : ℕ) (values : List ℤ) → 0 < channels → used ≤ length values → length (drop used values) ≡ length (drop used values) / channels * channels → moved ≡ used + min count ((length values - used) / channels) * channels
    → (moved ≤ length values)
    × (length (drop moved values) ≡ length (drop moved values) / channels * channels)
    × (frames_in channels (drop moved values) ≡ drop count (frames_in channels (drop used values)))
passed_on channels used count moved values some le whole is =
    let rest : List ℤ = drop used values in
    let size : length rest ≡ length values - used = length-drop used values in
    let n : ℕ = length rest / channels in
    let same : n ≡ (length values - used) / channels = ap (λ (k : ℕ). k / channels) size in
    let m : ℕ = min count n in
    let behind : moved ≡ used + m * channels = is ∙ ap (λ (k : ℕ). used + min count k * channels) (sym same) in
    let left = left_behind channels m rest some whole (omega arith) in
    let few : m * channels ≤ length rest = left.few in
    let on : drop moved values ≡ drop (m * channels) rest = ap (λ (k : ℕ). drop k values) behind ∙ sym (drop-drop (m * channels) used values) in
    let frames : List (List ℤ) = frames_in channels rest in
    let number : min count n ≡ min count (length frames) = ap (λ (k : ℕ). min count k) (sym (length-parts_of n channels rest)) in (
      omega arith,
      rw on left.whole,
      rw on (left.frames ∙ ap (λ (k : ℕ). drop k frames) number ∙ drop_min count frames),
    )
