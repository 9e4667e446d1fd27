-- The frames between two blocks, without what is cut off.
use Rattle.std.proofs.Common.{◌≡◌, ℕ, zero, suc, ◌+◌, ◌-◌, ◌≤◌, ◌<◌, true, false, Bool, ◌&&◌, ◌||◌, List, [], ◌∷◌, ◌++◌, map, refl, ap, sym, ◌∙◌, arith, min, ◌⊎◌, inl, inr}
use Rattle.std.specs.Prelude.{nat_le, nat_lt}
use Rattle.std.specs.List.{range_with_len}
use Rattle.std.proofs.lemmas.Bool.{le-leb, lt-leb, lt-ltb, le-ltb}
use Rattle.std.proofs.lemmas.List.{append-nil}
use Rattle.model_line.specs.declared.trim.Cuts.{Cuts}
use Rattle.model_line.specs.Decode.{LineItem, frame}
use Rattle.model_line.specs.Trim.{trimmed, stays, NeverMeet}

-- the frames of these numbers
abbrev pub frames_at : {F : Type 0} → ℕ → (ℕ → F) → ℕ → ℕ → List (LineItem F)
frames_at link g j n = map (frame link) (map g (range_with_len j n))

frames_split : {F : Type 0} (link : ℕ) (g : ℕ → F) (j k m n : ℕ) → j + m ≡ k → frames_at link g j (m + n) ≡ frames_at link g j m ++ frames_at link g k n
frames_split link g j k zero n e = let a : zero + n ≡ n = omega arith in let b : j ≡ k = omega arith in rw (a, b) refl
frames_split link g j k (suc m) n e =
    let a : suc m + n ≡ suc (m + n) = omega arith in
    rw a (ap (λ xs. frame link (g j) ∷ xs) (frames_split link g (j + 1) k m n (omega arith)))

gone : {F : Type 0} (cuts : Cuts) (link : ℕ) (g : ℕ → F) (p j n : ℕ) (ys : List (LineItem F)) → ((i : ℕ) → p ≤ i → i < p + n → stays cuts i ≡ false) → trimmed cuts p (frames_at link g j n ++ ys) ≡ trimmed cuts (p + n) ys
unfolding trimmed
gone cuts link g p j zero ys goes = let a : p + zero ≡ p = omega arith in rw a refl
gone cuts link g p j (suc n) ys goes =
    let here = goes p (omega arith) (omega arith) in
    let a : p + 1 + n ≡ p + suc n = omega arith in
    rw (here, ← a) (gone cuts link g (p + 1) (j + 1) n ys (λ i le lt. goes i (omega arith) (omega arith)))

kept : {F : Type 0} (cuts : Cuts) (link : ℕ) (g : ℕ → F) (p j n : ℕ) (ys : List (LineItem F)) → ((i : ℕ) → p ≤ i → i < p + n → stays cuts i ≡ true) → trimmed cuts p (frames_at link g j n ++ ys) ≡ frames_at link g j n ++ trimmed cuts (p + n) ys
unfolding trimmed
kept cuts link g p j zero ys stay = let a : p + zero ≡ p = omega arith in rw a refl
kept cuts link g p j (suc n) ys stay =
    let here = stay p (omega arith) (omega arith) in
    let a : p + 1 + n ≡ p + suc n = omega arith in
    rw (here, ← a) (ap (λ xs. frame link (g j) ∷ xs) (kept cuts link g (p + 1) (j + 1) n ys (λ i le lt. stay i (omega arith) (omega arith))))

-- ---- which frames stay

and_false : (b : Bool) → (b && false) ≡ false
and_false true = refl
and_false false = refl

or_true : (b : Bool) → (b || true) ≡ true
or_true true = refl
or_true false = refl

goes_front : (cuts : Cuts) (i : ℕ) → i < cuts.front → stays cuts i ≡ false
goes_front cuts i lt = rw (lt-leb cuts.front i lt) refl

goes_end : (cuts : Cuts) (i : ℕ) → cuts.end.from ≤ i → i < cuts.end.to → stays cuts i ≡ false
goes_end cuts i le lt = rw (le-ltb i cuts.end.from le, lt-leb cuts.end.to i lt) (and_false (nat_le cuts.front i))

stays_before : (cuts : Cuts) (i : ℕ) → cuts.front ≤ i → i < cuts.end.from → stays cuts i ≡ true
stays_before cuts i le lt = rw (le-leb cuts.front i le, lt-ltb i cuts.end.from lt) refl

stays_behind : (cuts : Cuts) (i : ℕ) → cuts.front ≤ i → cuts.end.to ≤ i → stays cuts i ≡ true
stays_behind cuts i le behind = rw (le-leb cuts.front i le, le-leb cuts.end.to i behind) (or_true (nat_lt i cuts.end.from))

-- ---- of the frames behind so many of the link, those from one to another stay

kept_part : {F : Type 0} (cuts : Cuts) (link : ℕ) (g : ℕ → F) (first count from to : ℕ) → from ≤ count → to ≤ count
    → ((i : ℕ) → first ≤ i → i < first + from → stays cuts i ≡ false)
    → ((i : ℕ) → first + from ≤ i → i < first + to → stays cuts i ≡ true)
    → ((i : ℕ) → first + to ≤ i → first + from ≤ i → i < first + count → stays cuts i ≡ false)
    → trimmed cuts first (frames_at link g 0 count) ≡ frames_at link g from (to - from)
unfolding trimmed
kept_part cuts link g first count from to from-le to-le front stay end =
    let n : ℕ = to - from in
    let rest : ℕ = count - from - n in
    let whole : count ≡ from + (n + rest) = omega arith in
    let all : frames_at link g 0 count ≡ frames_at link g 0 from ++ (frames_at link g from n ++ (frames_at link g (from + n) rest ++ [])) =
    ap (frames_at link g 0) whole
    ∙ frames_split link g 0 from from (n + rest) (omega arith)
    ∙ ap (λ xs. frames_at link g 0 from ++ xs) (frames_split link g from (from + n) n rest refl)
    ∙ ap (λ xs. frames_at link g 0 from ++ (frames_at link g from n ++ xs)) (sym (append-nil (frames_at link g (from + n) rest))) in
    rw all (
    gone cuts link g first 0 from (frames_at link g from n ++ (frames_at link g (from + n) rest ++ [])) front
    ∙ kept cuts link g (first + from) from n (frames_at link g (from + n) rest ++ []) (λ i le lt. stay i le (omega arith))
    ∙ ap (λ xs. frames_at link g from n ++ xs) (gone cuts link g (first + from + n) (from + n) rest [] (λ i le lt. end i (omega arith) (omega arith) (omega arith)))
    ∙ append-nil (frames_at link g from n))

pub kept_frames : {F : Type 0} (cuts : Cuts) (link : ℕ) (g : ℕ → F) (first count from to : ℕ) → NeverMeet cuts
    → from ≡ min (cuts.front - first) count
    → ((cuts.end.to ≤ first) × (to ≡ count)) ⊎ ((first + count ≤ cuts.end.to) × (to ≡ min (cuts.end.from - first) count))
    → trimmed cuts first (frames_at link g 0 count) ≡ frames_at link g from (to - from)
kept_frames cuts link g first count from to apart from-is (inl (behind, to-is)) =
    kept_part cuts link g first count from to (omega arith) (omega arith)
    (λ i le lt. goes_front cuts i (omega arith))
    (λ i le lt. stays_behind cuts i (omega (arith, apart.front, apart.end)) (omega arith))
    (λ i le more lt. absurd (omega arith))
kept_frames cuts link g first count from to apart from-is (inr (before, to-is)) =
    kept_part cuts link g first count from to (omega arith) (omega arith)
    (λ i le lt. goes_front cuts i (omega arith))
    (λ i le lt. stays_before cuts i (omega arith) (omega arith))
    (λ i le more lt. goes_end cuts i (omega arith) (omega arith))
