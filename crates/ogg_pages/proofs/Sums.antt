-- A checksum, one step at a time.
use Rattle.std.proofs.Common.{◌≡◌, ℕ, suc, ◌+◌, ◌-◌, ◌≤◌, ◌⊎◌, false, nat_lt, List, [], ◌∷◌, ◌++◌, length, drop, replicate, inl, inr, min, take, take-append-drop, take_all, refl, sym, ap, ◌∙◌, arith}
use Rattle.std.specs.Prelude.{fold}
use Rattle.std.proofs.lemmas.Bool.{lt-ltb, le-ltb, cases_lt}
use Rattle.std.proofs.lemmas.List.Sums.{fold-append}
use Rattle.std.proofs.lemmas.List.{drop_all, length-drop, length-take-le, take-replicate}
use Rattle.ogg_pages.specs.Ring.{bytes_between}
use Rattle.ogg_pages.proofs.RingSteps.{between-append}
use Rattle.model_ogg.specs.Checksum.{with_byte, read_as, counted, checksum_of}

-- what stands before the checksum itself counts as it is
counted-before : (place : ℕ) (bytes : List ℕ) → place + length bytes ≤ 22 → counted place bytes ≡ bytes
unfolding counted read_as
counted-before place [] le = refl
counted-before place (b ∷ bytes) le = rw (lt-ltb place 22 (omega arith)) (ap (λ (rest : List ℕ). b ∷ rest) (counted-before (place + 1) bytes (omega arith)))

-- the checksum itself counts as 0
counted-own : (place : ℕ) (bytes : List ℕ) → 22 ≤ place → place + length bytes ≤ 26 → counted place bytes ≡ replicate (length bytes) 0
unfolding counted read_as
counted-own place [] ge le = refl
counted-own place (b ∷ bytes) ge le =
    rw (le-ltb place 22 ge, lt-ltb place 26 (omega arith)) (ap (λ (rest : List ℕ). 0 ∷ rest) (counted-own (place + 1) bytes (omega arith) (omega arith)))

-- what stands behind the checksum itself counts as it is
counted-behind : (place : ℕ) (bytes : List ℕ) → 26 ≤ place → counted place bytes ≡ bytes
unfolding counted read_as
counted-behind place [] le = refl
counted-behind place (b ∷ bytes) le =
    let past22 : nat_lt place 22 ≡ false = le-ltb place 22 (omega arith) in
    let past26 : nat_lt place 26 ≡ false = le-ltb place 26 le in
    rw (past22, past26) (ap (λ (rest : List ℕ). b ∷ rest) (counted-behind (place + 1) bytes (omega arith)))

counted-append : (place : ℕ) (front back : List ℕ) → counted place (front ++ back) ≡ counted place front ++ counted (place + length front) back
unfolding counted
counted-append place [] back = ap (λ n. counted n back) (omega arith)
counted-append place (b ∷ front) back =
    let next : place + 1 + length front ≡ place + suc (length front) = omega arith in
    ap (λ (rest : List ℕ). read_as place b ∷ rest) (counted-append (place + 1) front back ∙ ap (λ n. counted (place + 1) front ++ counted n back) next)

no_more : (place : ℕ) → counted place [] ≡ []
unfolding counted
no_more place = refl

-- the front of a page: what stands before the checksum itself, and as many bytes 0 as are there of it
counted-front : (before own : List ℕ) → length before ≤ 22 → (length own ≡ 0) ⊎ (length before ≡ 22) → length own ≤ 4 → counted 0 (before ++ own) ≡ before ++ replicate (length own) 0
counted-front before [] le at few = counted-append 0 before [] ∙ ap (λ (l : List ℕ). l ++ counted (0 + length before) []) (counted-before 0 before (omega arith)) ∙ ap (λ (l : List ℕ). before ++ l) (no_more (0 + length before))
counted-front before (b ∷ own) le at few =
    elim at [
      | inl none ↦ absurd (omega arith)
      | inr all ↦
          counted-append 0 before (b ∷ own) ∙ ap (λ (l : List ℕ). l ++ counted (0 + length before) (b ∷ own)) (counted-before 0 before (omega arith))
          ∙ ap (λ (l : List ℕ). before ++ l) (counted-own (0 + length before) (b ∷ own) (omega arith) (omega arith))
    ]

-- by how much of it is there
pub front_law : (front : List ℕ) (n r sum : ℕ) → length front ≤ 26 → n ≡ min (length front) 22 → r ≡ fold with_byte 0 (take n front) → sum ≡ fold with_byte r (take (length (drop n front)) (replicate 4 0)) → sum ≡ checksum_of front
unfolding checksum_of
front_law front n r sum few is_n is_r is_sum =
    let before = take n front in
    let own = drop n front in
    let inside : n ≤ length front = omega arith in
    let len : length before ≡ n = length-take-le n front inside in
    let left : length own ≡ length front - n = length-drop n front in
    let at : (length own ≡ 0) ⊎ (length before ≡ 22) =
    elim (cases_lt (length front) 22) [
      | inl short ↦ inl (omega arith)
      | inr long ↦ inr (omega arith)
    ] in
    let zeros : take (length own) (replicate 4 0) ≡ replicate (length own) 0 = take-replicate (length own) 4 0 (omega arith) in
    is_sum ∙ ap (fold with_byte r) zeros ∙ ap (λ x. fold with_byte x (replicate (length own) 0)) is_r ∙ sym (fold-append with_byte 0 before (replicate (length own) 0))
    ∙ ap (fold with_byte 0) (sym (counted-front before own (omega arith) at (omega arith)) ∙ ap (counted 0) (take-append-drop n front))

-- the checksum of a page by that of its front
pub in_two : (front back : List ℕ) → 26 ≤ length front → fold with_byte (checksum_of front) back ≡ checksum_of (front ++ back)
unfolding checksum_of
in_two front back le =
    let behind : counted (0 + length front) back ≡ back = counted-behind (0 + length front) back (omega arith) in
    sym (ap (fold with_byte 0) (counted-append 0 front back ∙ ap (λ (rest : List ℕ). counted 0 front ++ rest) behind) ∙ fold-append with_byte 0 (counted 0 front) back)

-- the same where the front is as much of the page as there is
pub front_and_rest : (bytes : List ℕ) (n : ℕ) → n ≡ min (length bytes) 26 → fold with_byte (checksum_of (take n bytes)) (drop n bytes) ≡ checksum_of bytes
front_and_rest bytes n e =
    elim (cases_lt (length bytes) 26) [
      | inl short ↦
          let all : length bytes ≤ n = omega arith in
          rw (take_all n bytes all, drop_all n bytes all) refl
      | inr long ↦
          let len : length (take n bytes) ≡ n = length-take-le n bytes (omega arith) in
          in_two (take n bytes) (drop n bytes) (omega arith) ∙ ap checksum_of (take-append-drop n bytes)
    ]

-- the same of a page that stands between two places
pub front_and_between : (bytes : List ℕ) (place end front all : ℕ) → place + 26 ≤ end → end ≤ length bytes → front ≡ checksum_of (bytes_between bytes place (place + 26))
    → all ≡ fold with_byte front (bytes_between bytes (place + 26) end) → all ≡ checksum_of (bytes_between bytes place end)
front_and_between bytes place end front all least within is_front is_all =
    let part = bytes_between bytes place (place + 26) in
    let n : place + 26 - place ≡ 26 = omega arith in
    let long : length part ≡ 26 = length-take-le (place + 26 - place) (drop place bytes) (omega (arith, length-drop place bytes)) ∙ n in
    is_all ∙ ap (λ x. fold with_byte x (bytes_between bytes (place + 26) end)) is_front ∙ in_two part (bytes_between bytes (place + 26) end) (omega arith)
    ∙ ap checksum_of (sym (between-append bytes place (place + 26) end (omega arith) least))
