-- The grown tables are a tree of square roots and of their inverses.
use Rattle.std.proofs.Common.{◌≡◌, ℕ, zero, suc, ◌+◌, ◌-◌, ◌*◌, ◌%◌, ◌<◌, ◌∙◌, List, [], ◌∷◌, ◌++◌, length, get_or, sym, refl, ap, subst, arith, ◌^◌, length-append, lit<}
use Rattle.std.proofs.Math.Nat.{mod-mod, mod-lt, mod-eq_of_lt, mul_comm, zero-add, one-mul, pow-suc}
use Rattle.std.proofs.lemmas.List.{get_or_append_left, length-map}
use Rattle.number_transform.specs.declared.field.TheConstants.{PRIME}
use Rattle.number_transform.specs.Remainders.{AreRoots, AreInverses}
use Rattle.number_transform.proofs.Congruences.{mul_same}
use Rattle.number_transform.specs.declared.roots.TheConstants.{STEMS, INVERSE_STEMS}
use Rattle.number_transform.specs.Roots.{scaled, grown, root_table, inverse_table}
use Rattle.number_transform.proofs.Filling.{small_append}
use Rattle.number_transform.proofs.Differences.{difference_with}

-- each number of xs has two roots among ys: one of its own and one of its negative
data Children : List ℕ → List ℕ → Type 0 where
  none : Children [] []
  two : {x y z : ℕ} {xs ys : List ℕ} → x < PRIME → (y * y) % PRIME ≡ x % PRIME → (z * z) % PRIME ≡ (PRIME - x) % PRIME → Children xs ys → Children (x ∷ xs) (y ∷ z ∷ ys)

Children-append : {xs ys us vs : List ℕ} → Children xs ys → Children us vs → Children (xs ++ us) (ys ++ vs)
Children-append none d = d
Children-append (two small left right c) d = two small left right (Children-append c d)

square_of : (y s x t : ℕ) → (y * y) % PRIME ≡ x % PRIME → (s * s) % PRIME ≡ t % PRIME → ((y * s) % PRIME * ((y * s) % PRIME)) % PRIME ≡ (x * t) % PRIME
square_of y s x t ey es =
    let regroup : y * s * (y * s) ≡ y * y * (s * s) = omega arith in
    mul_same PRIME ((y * s) % PRIME) ((y * s) % PRIME) (y * s) (y * s) (mod-mod (y * s) PRIME) (mod-mod (y * s) PRIME)
    ∙ (ap (λ n. n % PRIME) regroup ∙ mul_same PRIME (y * y) (s * s) x t ey es)

negative_of : (x t : ℕ) → x < PRIME → ((PRIME - x) * t) % PRIME ≡ (PRIME - (x * t) % PRIME) % PRIME
negative_of x t h =
    let turned : (x * t) % PRIME ≡ (t * x) % PRIME = ap (λ n. n % PRIME) (mul_comm x t) in
    ap (λ n. n % PRIME) (sym (zero-add ((PRIME - x) * t)))
    ∙ (sym (difference_with 0 t x ((x * t) % PRIME) h turned)
    ∙ ap (λ n. n % PRIME) (zero-add (PRIME - (x * t) % PRIME)))

Children-scaled : (s t : ℕ) → (s * s) % PRIME ≡ t % PRIME → {xs ys : List ℕ} → Children xs ys → Children (scaled t xs) (scaled s ys)
Children-scaled s t e none = none
Children-scaled s t e (two {x = x} {y = y} {z = z} small left right c) =
    two (mod-lt (x * t) (omega arith))
    (square_of y s x t left e ∙ sym (mod-mod (x * t) PRIME))
    (square_of z s (PRIME - x) t right e ∙ negative_of x t small)
    (Children-scaled s t e c)

-- stems of which each is a root of the one before, t at first
data Stems : ℕ → List ℕ → Type 0 where
  end : {t : ℕ} → Stems t []
  next : {t s : ℕ} {ss : List ℕ} → (s * s) % PRIME ≡ t % PRIME → Stems s ss → Stems t (s ∷ ss)

-- a table is the half of it before the last stem s, and the multiples of that half
record Tree (table : List ℕ) : Type 0 where
  half : List ℕ
  stem : ℕ
  doubled : table ≡ half ++ scaled stem half
  children : Children half table

tree_grows : (ss table : List ℕ) (tree : Tree table) → Stems tree.stem ss → Tree (grown ss table)
tree_grows [] table tree end = tree
tree_grows (s ∷ ss) table tree (next e stems) =
    tree_grows ss (table ++ scaled s table)
    (record {
      half = table;
      stem = s;
      doubled = refl;
      children = subst (λ l. Children l (table ++ scaled s table)) (sym tree.doubled) (Children-append tree.children (Children-scaled s tree.stem e tree.children));
    })
    stems

Children-length : {xs ys : List ℕ} → Children xs ys → length ys ≡ 2 * length xs
Children-length none = refl
Children-length (two small left right c) = omega (arith, Children-length c)

Children-at : {xs ys : List ℕ} → Children xs ys → (i : ℕ) → i < length xs →
    (get_or xs i 0 < PRIME) × ((get_or ys (2 * i) 0 * get_or ys (2 * i) 0) % PRIME ≡ get_or xs i 0 % PRIME) × ((get_or ys (2 * i + 1) 0 * get_or ys (2 * i + 1) 0) % PRIME ≡ (PRIME - get_or xs i 0) % PRIME)
Children-at none i h = absurd (omega arith)
Children-at (two small left right c) zero h = (small, left, right)
Children-at (two {x = x} {y = y} {z = z} {xs = xs} {ys = ys} small left right c) (suc i) h =
    let rest = Children-at c i (omega arith) in
    let even : 2 * suc i ≡ suc (suc (2 * i)) = omega arith in
    let odd : 2 * suc i + 1 ≡ suc (suc (2 * i + 1)) = omega arith in (
      rest.0,
      subst (λ p. (get_or (y ∷ z ∷ ys) p 0 * get_or (y ∷ z ∷ ys) p 0) % PRIME ≡ get_or xs i 0 % PRIME) (sym even) rest.1,
      subst (λ p. (get_or (y ∷ z ∷ ys) p 0 * get_or (y ∷ z ∷ ys) p 0) % PRIME ≡ (PRIME - get_or xs i 0) % PRIME) (sym odd) rest.2,
    )

scaled_small : (s : ℕ) (xs : List ℕ) (i : ℕ) → get_or (scaled s xs) i 0 < PRIME
scaled_small s [] i = omega arith
scaled_small s (x ∷ xs) zero = mod-lt (x * s) (omega arith)
scaled_small s (x ∷ xs) (suc i) = scaled_small s xs i

grown_small : (ss xs : List ℕ) → ((i : ℕ) → get_or xs i 0 < PRIME) → (i : ℕ) → get_or (grown ss xs) i 0 < PRIME
grown_small [] xs h i = h i
grown_small (s ∷ ss) xs h i = grown_small ss (xs ++ scaled s xs) (small_append PRIME xs (scaled s xs) h (scaled_small s xs)) i

one_small : (i : ℕ) → get_or (1 ∷ []) i 0 < PRIME
one_small zero = omega arith
one_small (suc i) = omega arith

grown_start : (ss xs : List ℕ) → 0 < length xs → get_or xs 0 0 ≡ 1 → get_or (grown ss xs) 0 0 ≡ 1
grown_start [] xs some h = h
grown_start (s ∷ ss) [] some h = absurd (omega arith)
grown_start (s ∷ ss) (x ∷ xs) some h = grown_start ss (x ∷ xs ++ scaled s (x ∷ xs)) (omega arith) h

Tree-roots : (table : List ℕ) → Tree table → get_or table 0 0 ≡ 1 → ((i : ℕ) → get_or table i 0 < PRIME) → AreRoots (λ i. get_or table i 0) (length table)
Tree-roots table tree start small =
    let size : length table ≡ 2 * length tree.half = Children-length tree.children in
    let same = λ (i : ℕ) (h : i < length tree.half). ap (λ l. get_or l i 0) tree.doubled ∙ get_or_append_left tree.half (scaled tree.stem tree.half) 0 i h in
    record {
      start = start;
      left = λ i h. (Children-at tree.children i (omega arith)).1 ∙ ap (λ x. x % PRIME) (sym (same i (omega arith)));
      right = λ i h. (Children-at tree.children i (omega arith)).2 ∙ ap (λ x. (PRIME - x) % PRIME) (sym (same i (omega arith)));
      small = small;
    }

grown_laws : (stems : List ℕ) → 0 < length stems → get_or stems 0 0 < PRIME → Stems (PRIME - 1) stems → AreRoots (λ i. get_or (grown stems (1 ∷ [])) i 0) (length (grown stems (1 ∷ [])))
grown_laws [] some small end = absurd (omega arith)
grown_laws (s ∷ ss) some small (next square stems) =
    let whole : (1 * s) % PRIME ≡ s = ap (λ x. x % PRIME) (one-mul s) ∙ mod-eq_of_lt small in
    let first : Tree (1 ∷ (1 * s) % PRIME ∷ []) = record {
      half = 1 ∷ [];
      stem = s;
      doubled = refl;
      children = two (omega arith) refl (ap (λ x. (x * x) % PRIME) whole ∙ square) none;
    } in
    Tree-roots (grown (s ∷ ss) (1 ∷ [])) (tree_grows ss (1 ∷ (1 * s) % PRIME ∷ []) first stems) (grown_start (s ∷ ss) (1 ∷ []) (omega arith) refl) (grown_small (s ∷ ss) (1 ∷ []) one_small)

stems_hold : Stems (PRIME - 1) STEMS
stems_hold = next refl (next refl (next refl (next refl (next refl (next refl (next refl (next refl (next refl (next refl (next refl (next refl end)))))))))))

pub root_table_laws : AreRoots (λ i. get_or root_table i 0) (length root_table)
unfolding root_table
root_table_laws = grown_laws STEMS (lit< tt) (lit< tt) stems_hold

length-scaled : (s : ℕ) (xs : List ℕ) → length (scaled s xs) ≡ length xs
length-scaled s xs = length-map xs (λ x. (x * s) % PRIME)

length-grown : (ss xs : List ℕ) → length (grown ss xs) ≡ 2 ^ length ss * length xs
length-grown [] xs = omega arith
length-grown (s ∷ ss) xs = length-grown ss (xs ++ scaled s xs) ∙ twice (2 ^ length ss) (2 ^ suc (length ss)) (length xs) _ (pow-suc 2 (length ss) ∙ omega arith) (length-append xs (scaled s xs) ∙ omega (arith, length-scaled s xs))
  where
    twice : (p q n m : ℕ) → q ≡ 2 * p → m ≡ n + n → p * m ≡ q * n
    twice p q n m e f =
        let left : p * m ≡ p * (n + n) = ap (λ x. p * x) f in
        let right : q * n ≡ 2 * p * n = ap (λ x. x * n) e in
        omega arith

pub length-root_table : length root_table ≡ 4096
unfolding root_table
length-root_table = length-grown STEMS (1 ∷ [])

pub length-inverse_table : length inverse_table ≡ 4096
unfolding inverse_table
length-inverse_table = length-grown INVERSE_STEMS (1 ∷ [])

-- the numbers of one list are inverses of those of another
data Inverses : List ℕ → List ℕ → Type 0 where
  none : Inverses [] []
  pair : {x z : ℕ} {xs zs : List ℕ} → (x * z) % PRIME ≡ 1 → Inverses xs zs → Inverses (x ∷ xs) (z ∷ zs)

Inverses-append : {xs zs us vs : List ℕ} → Inverses xs zs → Inverses us vs → Inverses (xs ++ us) (zs ++ vs)
Inverses-append none d = d
Inverses-append (pair e c) d = pair e (Inverses-append c d)

Inverses-scaled : (s t : ℕ) → (s * t) % PRIME ≡ 1 → {xs zs : List ℕ} → Inverses xs zs → Inverses (scaled s xs) (scaled t zs)
Inverses-scaled s t e none = none
Inverses-scaled s t e (pair {x = x} {z = z} one c) =
    let regroup : x * s * (z * t) ≡ x * z * (s * t) = omega arith in
    pair (mul_same PRIME ((x * s) % PRIME) ((z * t) % PRIME) (x * s) (z * t) (mod-mod (x * s) PRIME) (mod-mod (z * t) PRIME)
    ∙ (ap (λ n. n % PRIME) regroup ∙ mul_same PRIME (x * z) (s * t) 1 1 one e)) (Inverses-scaled s t e c)

Inverses-grown : {ss ts : List ℕ} → Inverses ss ts → {xs zs : List ℕ} → Inverses xs zs → Inverses (grown ss xs) (grown ts zs)
Inverses-grown none c = c
Inverses-grown (pair {x = s} {z = t} e more) c = Inverses-grown more (Inverses-append c (Inverses-scaled s t e c))

Inverses-at : {xs zs : List ℕ} → Inverses xs zs → (i : ℕ) → i < length xs → (get_or xs i 0 * get_or zs i 0) % PRIME ≡ 1
Inverses-at none i h = absurd (omega arith)
Inverses-at (pair e c) zero h = e
Inverses-at (pair e c) (suc i) h = Inverses-at c i (omega arith)

stems_inverse : Inverses STEMS INVERSE_STEMS
stems_inverse = pair refl (pair refl (pair refl (pair refl (pair refl (pair refl (pair refl (pair refl (pair refl (pair refl (pair refl (pair refl none)))))))))))

tables_inverse : Inverses root_table inverse_table
unfolding root_table inverse_table
tables_inverse = Inverses-grown stems_inverse (pair refl none)

pub inverse_table_laws : AreInverses (λ i. get_or root_table i 0) (λ i. get_or inverse_table i 0) (length root_table)
inverse_table_laws = record { one = Inverses-at tables_inverse; small = root_table_laws.small }
