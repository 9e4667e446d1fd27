-- Facts on lists that are mapped, joined and filtered.
use Rattle.std.proofs.Common.{◌≡◌, ℕ, zero, suc, ◌+◌, ◌<◌, Bool, true, List, [], ◌∷◌, ◌++◌, map, refl, ap, ◌∙◌, arith}
use Rattle.std.specs.List.{All, AllByRecursion, flat_map, filter, range_with_len}
use Rattle.std.proofs.lemmas.List.Elements.{All-nil, All-append}

-- ---- what holds of each element

pub All-flat_map : {X A : Type 0} (P : A → Type 0) (f : X → List A) (xs : List X) → AllByRecursion (λ x. All P (f x)) xs → All P (flat_map f xs)
All-flat_map P f [] each = All-nil P
All-flat_map P f (x ∷ xs) each = All-append P (f x) (flat_map f xs) each.0 (All-flat_map P f xs each.1)

pub all_of_range : (P : ℕ → Type 0) (a n : ℕ) → ((k : ℕ) → k < a + n → P k) → AllByRecursion P (range_with_len a n)
all_of_range P a zero each = tt
all_of_range P a (suc n) each = (each a (omega arith), all_of_range P (a + 1) n (λ k h. each k (omega arith)))

-- what holds of each element of a list holds of what these are made from
pub all_before_map : {X Y : Type 0} (Q : Y → Type 0) (f : X → Y) (xs : List X) → AllByRecursion Q (map f xs) → AllByRecursion (λ x. Q (f x)) xs
all_before_map Q f [] each = tt
all_before_map Q f (x ∷ xs) each = (each.0, all_before_map Q f xs each.1)

pub both_by_recursion : {X : Type 0} (P Q R : X → Type 0) → ((x : X) → P x → Q x → R x) → (xs : List X) → AllByRecursion P xs → AllByRecursion Q xs → AllByRecursion R xs
both_by_recursion P Q R both [] p q = tt
both_by_recursion P Q R both (x ∷ xs) p q = (both x p.0 q.0, both_by_recursion P Q R both xs p.1 q.1)

pub all_of_both : {X : Type 0} (P : X → Type 0) (xs ys : List X) → AllByRecursion P (xs ++ ys) → AllByRecursion P xs × AllByRecursion P ys
all_of_both P [] ys all = (tt, all)
all_of_both P (x ∷ xs) ys all = (let more = all_of_both P xs ys all.1 in ((all.0, more.0), more.1))

pub all_mapped : {X Y : Type 0} (P : Y → Type 0) (f : X → Y) → ((x : X) → P (f x)) → (xs : List X) → AllByRecursion P (map f xs)
all_mapped P f holds [] = tt
all_mapped P f holds (x ∷ xs) = (holds x, all_mapped P f holds xs)

pub all_weaker : {X : Type 0} (P Q : X → Type 0) → ((x : X) → P x → Q x) → (xs : List X) → AllByRecursion P xs → AllByRecursion Q xs
all_weaker P Q weaker [] all = tt
all_weaker P Q weaker (x ∷ xs) all = (weaker x all.0, all_weaker P Q weaker xs all.1)

-- each but the last
abbrev pub AllButLast : {X : Type 0} → (X → Type 0) → List X → Type 0
AllButLast P [] = Unit {0}
AllButLast P (x ∷ []) = Unit {0}
AllButLast P (x ∷ y ∷ ys) = P x × AllButLast P (y ∷ ys)

pub all_but_last_of_map : {X Y : Type 0} (P : Y → Type 0) (f : X → Y) (xs : List X) → AllButLast P (map f xs) → AllButLast (λ x. P (f x)) xs
all_but_last_of_map P f [] all = tt
all_but_last_of_map P f (x ∷ []) all = tt
all_but_last_of_map P f (x ∷ y ∷ xs) all = (all.0, all_but_last_of_map P f (y ∷ xs) all.1)

pub all_pass : {X : Type 0} (test : X → Bool) (xs : List X) → AllByRecursion (λ x. test x ≡ true) xs → filter test xs ≡ xs
all_pass test [] all = refl
all_pass {X} test (x ∷ xs) all = rw (all.0) (ap (λ (l : List X). x ∷ l) (all_pass test xs all.1))

-- ---- a list in two parts

-- a list that is mapped to two lists in a row
pub record Halves {X Y : Type 0} (f : X → Y) (xs : List X) (front back : List Y) : Type 0 where
  pub first : List X
  pub rest : List X
  pub whole : first ++ rest ≡ xs
  pub front_is : map f first ≡ front
  pub back_is : map f rest ≡ back

pub halves : {X Y : Type 0} (f : X → Y) (xs : List X) (front back : List Y) → map f xs ≡ front ++ back → Halves f xs front back
halves f xs [] back e = record { first = []; rest = xs; whole = refl; front_is = refl; back_is = e }
halves f [] (y ∷ ys) back e = absurd (cc)
halves {X} {Y} f (x ∷ xs) (y ∷ ys) back e =
    let here : f x ≡ y = cc in
    let behind : map f xs ≡ ys ++ back = cc in
    let h = halves f xs ys back behind in
    record {
      first = x ∷ h.first;
      rest = h.rest;
      whole = ap (λ (l : List X). x ∷ l) h.whole;
      front_is = ap (λ (l : Y). l ∷ map f h.first) here ∙ ap (λ (l : List Y). y ∷ l) h.front_is;
      back_is = h.back_is;
    }
