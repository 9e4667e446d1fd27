-- Vectors that are laid out one after the other.
use Rattle.std.proofs.Common.{◌≡◌, ℕ, ◌+◌, ◌*◌, ◌<◌, ◌≤◌, ℤ, List, [], ◌++◌, length, take, drop, length-append, length-drop, Option, Some, None, false, ◌==◌, inl, inr, refl, ap, sym, ◌∙◌, arith}
use Rattle.std.proofs.lemmas.Bool.{cases_lt}
use Rattle.std.specs.Prelude.{IsSome}
use Rattle.std.proofs.lemmas.Bool.Decides.{nat_tests}
use Rattle.std.proofs.lemmas.List.{take-append-le, drop-append-le, drop_all, take_all, take-take}
use Rattle.model_setup.specs.Codebook.{Lookup}
use Rattle.model_setup.specs.Vectors.{vector_of}
use Rattle.model_setup.proofs.Sizes.{multiple-lt}
use Rattle.codebooks.specs.Layouts.{AreVectors}

-- a vector more
pub vectors_more : (d i : ℕ) (lookup : Lookup) (values vector : List ℤ) → AreVectors d i lookup values → length vector ≡ d → vector ≡ vector_of d lookup i → AreVectors d (i + 1) lookup (values ++ vector)
vectors_more d i lookup values vector laid long is_vector =
    let count = laid.count in
    record {
      count = simp length-append (omega arith);
      each = λ entry h. elim (cases_lt entry i) [
        | inl less ↦
            let fits : entry * d + d ≤ i * d = multiple-lt entry i d less in
            let m : drop (entry * d) (values ++ vector) ≡ drop (entry * d) values ++ vector = drop-append-le (entry * d) values vector (omega arith) in
            let t : take d (drop (entry * d) values ++ vector) ≡ take d (drop (entry * d) values) = take-append-le d (drop (entry * d) values) vector (simp length-drop (omega arith)) in
            ap (take d) m ∙ t ∙ laid.each entry less
        | inr more ↦
            let same : entry ≡ i = omega arith in
            let m : drop (i * d) (values ++ vector) ≡ drop (i * d) values ++ vector = drop-append-le (i * d) values vector (omega arith) in
            let n : drop (i * d) values ≡ [] = drop_all (i * d) values (omega arith) in
            rw same (ap (take d) (m ∙ ap (λ xs. xs ++ vector) n) ∙ take_all d vector (omega arith) ∙ is_vector)
      ];
    }

-- the first values of one of them
pub first_laid : (d entries entry count : ℕ) (lookup : Lookup) (values : List ℤ) → AreVectors d entries lookup values → entry < entries → count ≤ d → take count (drop (entry * d) values) ≡ take count (vector_of d lookup entry)
first_laid d entries entry count lookup values laid lt few =
    sym (take-take count d (drop (entry * d) values) few) ∙ ap (take count) (laid.each entry lt)

pub room_laid : (d entries entry : ℕ) (lookup : Lookup) (values : List ℤ) → AreVectors d entries lookup values → entry < entries → entry * d + d ≤ length values
room_laid d entries entry lookup values laid lt =
    let fits : entry * d + d ≤ entries * d = multiple-lt entry entries d lt in
    let count = laid.count in
    omega arith

pub some_lookup : (o : Option Lookup) → IsSome o → (l : Lookup) × (o ≡ Some l)
some_lookup None h = absurd (cc)
some_lookup (Some l) h = (l, refl)

pub not_empty : (n : ℕ) → false ≡ (n == 0) → 0 < n
not_empty n h = grind (arith, nat_tests)
