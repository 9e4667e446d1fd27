-- How many frames and gaps there are.
use Rattle.std.proofs.Common.{◌≡◌, ℕ, ◌+◌, ◌≤◌, true, false, Bool, cond, List, [], ◌∷◌, ◌++◌, length, map, refl, ap, sym, ◌∙◌, arith, append_assoc}
use Rattle.model_line.specs.declared.trim.Cuts.{Cuts}
use Rattle.model_line.specs.Decode.{LineItem, frame, gap, frame_count, gap_count}
use Rattle.model_line.specs.Trim.{trimmed, stays}

pub frame_count-append : {F : Type 0} (xs ys : List (LineItem F)) → frame_count (xs ++ ys) ≡ frame_count xs + frame_count ys
unfolding frame_count
frame_count-append [] ys = omega arith
frame_count-append (frame link f ∷ xs) ys = omega (arith, frame_count-append xs ys)
frame_count-append (gap link kind ∷ xs) ys = frame_count-append xs ys

pub gap_count-append : {F : Type 0} (xs ys : List (LineItem F)) → gap_count (xs ++ ys) ≡ gap_count xs + gap_count ys
unfolding gap_count
gap_count-append [] ys = omega arith
gap_count-append (frame link f ∷ xs) ys = gap_count-append xs ys
gap_count-append (gap link kind ∷ xs) ys = omega (arith, gap_count-append xs ys)

pub frame_count-frames : {F : Type 0} (link : ℕ) (fs : List F) → frame_count (map (frame link) fs) ≡ length fs
unfolding frame_count
frame_count-frames link [] = refl
frame_count-frames link (f ∷ fs) = omega (arith, frame_count-frames link fs)

pub gap_count-frames : {F : Type 0} (link : ℕ) (fs : List F) → gap_count (map (frame link) fs) ≡ 0
unfolding gap_count
gap_count-frames link [] = refl
gap_count-frames link (f ∷ fs) = gap_count-frames link fs

-- a frame that may go
frame_kept : {F : Type 0} (link : ℕ) (f : F) (b : Bool) → frame_count (cond b (frame link f ∷ []) []) ≤ 1
unfolding frame_count
frame_kept link f true = omega arith
frame_kept link f false = omega arith

gap_kept : {F : Type 0} (link : ℕ) (f : F) (b : Bool) → gap_count (cond b (frame link f ∷ []) []) ≡ 0
unfolding gap_count
gap_kept link f true = refl
gap_kept link f false = refl

-- no gap goes
pub gap_count-trimmed : {F : Type 0} (cuts : Cuts) (n : ℕ) (xs : List (LineItem F)) → gap_count (trimmed cuts n xs) ≡ gap_count xs
unfolding trimmed gap_count
gap_count-trimmed cuts n [] = refl
gap_count-trimmed cuts n (frame link f ∷ xs) =
    gap_count-append (cond (stays cuts n) (frame link f ∷ []) []) (trimmed cuts (n + 1) xs) ∙ omega (arith, gap_kept link f (stays cuts n), gap_count-trimmed cuts (n + 1) xs)
gap_count-trimmed cuts n (gap link kind ∷ xs) = ap (λ k. 1 + k) (gap_count-trimmed cuts n xs)

-- no frame comes
pub frame_count-trimmed : {F : Type 0} (cuts : Cuts) (n : ℕ) (xs : List (LineItem F)) → frame_count (trimmed cuts n xs) ≤ frame_count xs
unfolding trimmed frame_count
frame_count-trimmed cuts n [] = omega arith
frame_count-trimmed cuts n (frame link f ∷ xs) =
    omega (arith, frame_count-append (cond (stays cuts n) (frame link f ∷ []) []) (trimmed cuts (n + 1) xs), frame_kept link f (stays cuts n), frame_count-trimmed cuts (n + 1) xs)
frame_count-trimmed cuts n (gap link kind ∷ xs) = frame_count-trimmed cuts n xs

-- a list is trimmed part by part
pub trimmed-append : {F : Type 0} (cuts : Cuts) (n : ℕ) (xs ys : List (LineItem F)) → trimmed cuts n (xs ++ ys) ≡ trimmed cuts n xs ++ trimmed cuts (n + frame_count xs) ys
unfolding trimmed frame_count
trimmed-append cuts n [] ys = let e : n + 0 ≡ n = omega arith in rw e refl
trimmed-append cuts n (frame link f ∷ xs) ys =
    let e : n + 1 + frame_count xs ≡ n + (1 + frame_count xs) = omega arith in
    ap (λ zs. cond (stays cuts n) (frame link f ∷ []) [] ++ zs) (trimmed-append cuts (n + 1) xs ys ∙ ap (λ k. trimmed cuts (n + 1) xs ++ trimmed cuts k ys) e)
    ∙ sym (append_assoc (cond (stays cuts n) (frame link f ∷ []) []) (trimmed cuts (n + 1) xs) (trimmed cuts (n + (1 + frame_count xs)) ys))
trimmed-append cuts n (gap link kind ∷ xs) ys = ap (λ zs. gap link kind ∷ zs) (trimmed-append cuts n xs ys)
