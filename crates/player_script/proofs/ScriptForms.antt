-- A script as its lines.
use Rattle.std.proofs.Common.{◌≡◌, ℕ, ◌+◌, ◌-◌, ◌<◌, ◌^◌, Bool, true, false, cond, eqb, List, [], ◌∷◌, length, take, drop, Ok, refl, ap, ◌∙◌, arith, length-drop}
use Rattle.std.specs.Prelude.{nat_eq}
use Rattle.std.specs.List.{count_by, slice_split, ends_with}
use lib.Pointwise.{pointwise}
use Rattle.std.proofs.lemmas.Bool.Decides.{nat_tests}
use Rattle.std.proofs.lemmas.List.{length-map, length-take-le}
use Rattle.std.proofs.lemmas.List.Sums.{count_by-le-length, sum_by-take-drop}
use Rattle.std.proofs.lemmas.List.Splits.{length-slice_split}
use Rattle.model_script.specs.Lines.{words_of}
use Rattle.model_script.specs.Scripts.{worded_lines, said, first_refusal, lanes_unless, script_of, without_last_feed}
use Rattle.player_script.specs.Steps.{worded}

pub empty_script : (bytes : List ℕ) → length bytes ≡ 0 → script_of bytes ≡ Ok []
unfolding script_of worded_lines said first_refusal
empty_script [] e = refl
empty_script (b ∷ bytes) e = absurd (omega arith)

-- a script that has bytes
pub script_is : (bytes : List ℕ) → 0 < length bytes → let lines = worded (without_last_feed bytes) in script_of bytes ≡ lanes_unless (said lines) (first_refusal lines)
unfolding script_of worded_lines
script_is [] h = absurd (omega arith)
script_is (b ∷ bytes) h = refl

length-worded : (text : List ℕ) → length (worded text) ≡ count_by (λ b. eqb b 10) text + 1
length-worded text = length-map (slice_split (λ b. eqb b 10) text) words_of ∙ length-slice_split (λ b. eqb b 10) text

other_end : (ys : List ℕ) → length ys ≡ 1 → ends_with nat_eq ys (10 ∷ []) ≡ false → count_by (λ b. eqb b 10) ys ≡ 0
other_end [] one e = absurd (omega arith)
other_end (y ∷ []) one e = let other : eqb y 10 ≡ false = grind (arith, nat_tests) in ap (λ b. 0 + cond b 1 0) other
other_end (y ∷ z ∷ zs) one e = absurd (omega arith)

-- whether a list ends so is seen at its last element
ends : (bytes : List ℕ) → 0 < length bytes → ends_with nat_eq bytes (10 ∷ []) ≡ false → ends_with nat_eq (drop (length bytes - 1) bytes) (10 ∷ []) ≡ false
ends bytes h e =
    let one : length (drop (length bytes - 1) bytes) - 1 ≡ 0 = omega (arith, length-drop (length bytes - 1) bytes) in
    ap (λ n. pointwise nat_eq (10 ∷ []) (drop n (drop (length bytes - 1) bytes))) one ∙ e

fewer : (bytes : List ℕ) → 0 < length bytes → ends_with nat_eq bytes (10 ∷ []) ≡ false → count_by (λ b. eqb b 10) bytes < length bytes
fewer bytes h e =
    let n = length bytes - 1 in
    let last : length (drop n bytes) ≡ 1 = omega (arith, length-drop n bytes) in
    let none = other_end (drop n bytes) last (ends bytes h e) in
    let parts = sum_by-take-drop (λ b. cond (eqb b 10) 1 0) bytes n in
    let front = count_by-le-length (λ b. eqb b 10) (take n bytes) in
    omega (arith, length-take-le n bytes (omega arith))

few_by : (bytes : List ℕ) (b : Bool) → 0 < length bytes → length bytes < 2 ^ 32 → ends_with nat_eq bytes (10 ∷ []) ≡ b → length (worded (cond b (take (length bytes - 1) bytes) bytes)) < 2 ^ 32
few_by bytes true h small e =
    let t = take (length bytes - 1) bytes in
    omega (arith, length-worded t, count_by-le-length (λ b. eqb b 10) t, length-take-le (length bytes - 1) bytes (omega arith))
few_by bytes false h small e = omega (arith, length-worded bytes, fewer bytes h e)

-- there are fewer lines than 2^32
pub few_lines : (bytes : List ℕ) → 0 < length bytes → length bytes < 2 ^ 32 → length (worded (without_last_feed bytes)) < 2 ^ 32
few_lines bytes h small = few_by bytes (ends_with nat_eq bytes (10 ∷ [])) h small refl
