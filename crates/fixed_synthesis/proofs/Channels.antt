-- Two channels of several, changed apart from each other.
use Rattle.std.proofs.Common.{◌≡◌, ℕ, ◌+◌, ◌-◌, ◌^◌, ◌<◌, ◌∙◌, sym, ap, subst, List, [], ◌∷◌, ◌++◌, fold, reverse, length, get_or, set, take, drop, ℤ, pos, arith, length-take}
use Rattle.std.specs.List.{All, refill}
use Rattle.std.proofs.lemmas.List.{get_or-take, get_or-drop, get_or_default, set-append_left, set-append_right, take-append-drop, length-set, take_at, take_all, take_more, length-reverse, get_or-reverse}
use Rattle.std.proofs.lemmas.List.Sums.{fold-append}
use Rattle.model_setup.specs.declared.setup.Coupling.{Coupling}
use Rattle.model_setup.specs.SetupPacket.{IsCoupling}
use Rattle.std.proofs.lemmas.List.Elements.{All-set, All-from_get_or}
use Rattle.std.proofs.lemmas.List.FromFn.{length-map-range_with_len, get_or-map-range_with_len}
use Rattle.model_fixed.specs.Fixed.{IsWithinLimit}
use Rattle.model_synthesis.specs.Coupling.{uncoupled, first_of, second_of, first_channel, second_channel, AreChannels, without_step, without_steps}
use Rattle.fixed_synthesis.proofs.Filled.{clamp_small}

-- a slice that is written whole
written_whole : (n : ℕ) (old new : List ℤ) → length new ≡ n → refill n old new ≡ new
written_whole n old new e =
    take_at new (drop (length new) old) n e

joined_parts : (xs : List (List ℤ)) (i n : ℕ) (v w : List ℤ) → i < n → n < length xs → set (take n xs) i v ++ set (drop n xs) 0 w ≡ set (set xs i v) n w
joined_parts xs i n v w low high =
    let front : length (take n xs) ≡ n = length-take n xs ∙ omega arith in
    let front' : length (set (take n xs) i v) ≡ n = length-set (take n xs) i v ∙ front in
    let whole : set xs i v ≡ set (take n xs) i v ++ drop n xs =
    ap (λ ys. set ys i v) (sym (take-append-drop n xs)) ∙ set-append_left (take n xs) (drop n xs) i v (omega arith) in
    let none : n - n ≡ 0 = omega arith in
    sym (ap (λ ys. set ys n w) whole
    ∙ (set-append_right (set (take n xs) i v) (drop n xs) n n w front' (omega arith)
    ∙ ap (λ k. set (take n xs) i v ++ set (drop n xs) k w) none))

-- the channels i and n are a and b, of which V and W make what stands there afterwards
pub both_set : (V W : List ℤ → List ℤ → List ℤ) (xs front back : List (List ℤ)) (i n : ℕ) (a b a' b' : List ℤ)
    → i < n → n < length xs → front ≡ take n xs → back ≡ drop n xs → a ≡ get_or front i a → b ≡ get_or back 0 b
    → a' ≡ V a b → b' ≡ W a b → length a' ≡ length a → length b' ≡ length b
    → set front i (refill (length (get_or front i a)) (get_or front i a) a') ++ set back 0 (refill (length (get_or back 0 b)) (get_or back 0 b) b')
    ≡ set (set xs i (V (get_or xs i []) (get_or xs n []))) n (W (get_or xs i []) (get_or xs n []))
both_set V W xs front back i n a b a' b' low high ef eb ea eb' va wb la lb =
    let plus : n + 0 ≡ n = omega arith in
    let is_a : a ≡ get_or xs i [] =
    ea ∙ (ap (λ ys. get_or ys i a) ef ∙ (get_or-take n xs i a low ∙ get_or_default xs i a [] (omega arith))) in
    let is_b : b ≡ get_or xs n [] =
    eb' ∙ (ap (λ ys. get_or ys 0 b) eb ∙ (get_or-drop n xs 0 b ∙ (ap (λ k. get_or xs k b) plus ∙ get_or_default xs n b [] high))) in
    let new_a : a' ≡ V (get_or xs i []) (get_or xs n []) = va ∙ (ap (λ x. V x b) is_a ∙ ap (V (get_or xs i [])) is_b) in
    let new_b : b' ≡ W (get_or xs i []) (get_or xs n []) = wb ∙ (ap (λ x. W x b) is_a ∙ ap (W (get_or xs i [])) is_b) in
    let whole_a = written_whole (length (get_or front i a)) (get_or front i a) a' (la ∙ ap length ea) in
    let whole_b = written_whole (length (get_or back 0 b)) (get_or back 0 b) b' (lb ∙ ap length eb') in
    ap (λ v. set front i v ++ set back 0 (refill (length (get_or back 0 b)) (get_or back 0 b) b')) (whole_a ∙ new_a)
    ∙ (ap (λ w. set front i (V (get_or xs i []) (get_or xs n [])) ++ set back 0 w) (whole_b ∙ new_b)
    ∙ (ap (λ ys. set ys i (V (get_or xs i []) (get_or xs n [])) ++ set back 0 (W (get_or xs i []) (get_or xs n []))) ef
    ∙ (ap (λ ys. set (take n xs) i (V (get_or xs i []) (get_or xs n [])) ++ set ys 0 (W (get_or xs i []) (get_or xs n []))) eb
    ∙ joined_parts xs i n (V (get_or xs i []) (get_or xs n [])) (W (get_or xs i []) (get_or xs n [])) low high)))

pub length-first_channel : (a b : List ℤ) → length (first_channel a b) ≡ length a
unfolding first_channel
length-first_channel a b = length-map-range_with_len (λ k. first_of (get_or a k (pos 0)) (get_or b k (pos 0))) 0 (length a)

pub length-second_channel : (a b : List ℤ) → length (second_channel a b) ≡ length a
unfolding second_channel
length-second_channel a b = length-map-range_with_len (λ k. second_of (get_or a k (pos 0)) (get_or b k (pos 0))) 0 (length a)

pub first_channel_small : (a b : List ℤ) → All IsWithinLimit (first_channel a b)
unfolding first_channel
first_channel_small a b =
    let at = λ (k : ℕ). first_of (get_or a k (pos 0)) (get_or b k (pos 0)) in
    let count = length-map-range_with_len at 0 (length a) in
    All-from_get_or IsWithinLimit (first_channel a b) (pos 0) (λ k h.
    subst IsWithinLimit (sym (get_or-map-range_with_len at 0 (length a) k k (pos 0) (omega (arith, count)) (omega arith)))
    (clamp_small (2 ^ 32) (uncoupled (get_or a k (pos 0)) (get_or b k (pos 0))).0))

pub second_channel_small : (a b : List ℤ) → All IsWithinLimit (second_channel a b)
unfolding second_channel
second_channel_small a b =
    let at = λ (k : ℕ). second_of (get_or a k (pos 0)) (get_or b k (pos 0)) in
    let count = length-map-range_with_len at 0 (length a) in
    All-from_get_or IsWithinLimit (second_channel a b) (pos 0) (λ k h.
    subst IsWithinLimit (sym (get_or-map-range_with_len at 0 (length a) k k (pos 0) (omega (arith, count)) (omega arith)))
    (clamp_small (2 ^ 32) (uncoupled (get_or a k (pos 0)) (get_or b k (pos 0))).1))

-- channels of which one is written anew
pub with_channel : (size : ℕ) (xs : List (List ℤ)) (i : ℕ) (v : List ℤ) → length v ≡ size → All IsWithinLimit v → AreChannels size xs → AreChannels size (set xs i v)
with_channel size xs i v e small are = record {
  sizes = All-set (λ bins. length bins ≡ size) xs i v e are.sizes;
  small = All-set (All IsWithinLimit) xs i v small are.small;
}

-- channels after a step
pub after_step : (size : ℕ) (xs : List (List ℤ)) (step : Coupling) → IsCoupling (length xs) step → AreChannels size xs → AreChannels size (without_step xs step)
unfolding without_step
after_step size xs step is are =
    let a = get_or xs step.magnitude [] in
    let b = get_or xs step.angle [] in
    let long : length (get_or xs step.magnitude []) ≡ size = are.sizes step.magnitude [] is.magnitude in
    let first = first_channel a b in
    with_channel size (set xs step.magnitude first) step.angle (second_channel a b) (length-second_channel a b ∙ long) (second_channel_small a b)
    (with_channel size xs step.magnitude first (length-first_channel a b ∙ long) (first_channel_small a b) are)

pub length-without_step : (xs : List (List ℤ)) (step : Coupling) → length (without_step xs step) ≡ length xs
unfolding without_step
length-without_step xs step =
    let first = first_channel (get_or xs step.magnitude []) (get_or xs step.angle []) in
    length-set (set xs step.magnitude first) step.angle (second_channel (get_or xs step.magnitude []) (get_or xs step.angle []))
    ∙ length-set xs step.magnitude first

-- so many of the last steps were undone
abbrev pub undone : List Coupling → List (List ℤ) → ℕ → List (List ℤ)
undone steps xs n = fold without_step xs (take n (reverse steps))

pub undone_more : (steps : List Coupling) (xs : List (List ℤ)) (n : ℕ) (step : Coupling) → n < length steps → step ≡ get_or steps (length steps - 1 - n) step → undone steps xs (n + 1) ≡ without_step (undone steps xs n) step
undone_more steps xs n step h e =
    let count : length (reverse steps) ≡ length steps = length-reverse steps in
    let here : get_or (reverse steps) n step ≡ step = get_or-reverse steps n step h ∙ sym e in
    ap (fold without_step xs) (take_more (reverse steps) n step (omega arith) ∙ ap (λ (s : Coupling). take n (reverse steps) ++ s ∷ []) here)
    ∙ fold-append without_step xs (take n (reverse steps)) (step ∷ [])

pub undone_all : (steps : List Coupling) (xs : List (List ℤ)) (n : ℕ) → n ≡ length steps → undone steps xs n ≡ without_steps steps xs
unfolding without_steps
undone_all steps xs n e = ap (fold without_step xs) (take_all n (reverse steps) (omega (arith, length-reverse steps)))

-- a step by the numbers of its channels
pub by_numbers : (xs : List (List ℤ)) (m a : ℕ) (step : Coupling) → m ≡ step.magnitude → a ≡ step.angle
    → set (set xs m (first_channel (get_or xs m []) (get_or xs a []))) a (second_channel (get_or xs m []) (get_or xs a [])) ≡ without_step xs step
unfolding without_step
by_numbers xs m a step em ea =
    let after = λ (i j : ℕ). set (set xs i (first_channel (get_or xs i []) (get_or xs j []))) j (second_channel (get_or xs i []) (get_or xs j [])) in
    ap (λ i. after i a) em ∙ ap (after step.magnitude) ea
