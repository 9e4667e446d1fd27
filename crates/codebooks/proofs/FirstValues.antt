-- The first values of a vector.
use Rattle.std.proofs.Common.{◌≡◌, ℕ, zero, suc, ◌≤◌, pos, List, Option, Some, None, Bool, take, map, refl, ap, sym, ◌∙◌, arith}
use Rattle.std.specs.List.{range_with_len}
use Rattle.std.proofs.lemmas.List.{take_all}
use Rattle.std.proofs.lemmas.List.FromFn.{fill_by_all, get_or-map-range_with_len, length-map-range_with_len, take-map-range_with_len}
use Rattle.model_setup.specs.declared.book.LookupKind.TheVariants.{Lattice}
use Rattle.model_setup.specs.Codebook.{Codebook, Lookup}
use Rattle.model_setup.specs.Codewords.{entry_at}
use Rattle.model_setup.specs.Vectors.{multiplicand_at, value_on, carried_on, value_at, vector_of, vector_by, vector_at}
use Rattle.codebooks.specs.FirstValues.{first_values_of}
use Rattle.codebooks.proofs.Fills.{digit_at}

digit_same : (d e : ℕ) (lookup : Lookup) (entry i : ℕ) → lookup.kind ≡ Lattice → multiplicand_at d lookup entry i ≡ multiplicand_at e lookup entry i
digit_same d e lookup entry i kind = digit_at d lookup entry i kind ∙ sym (digit_at e lookup entry i kind)

-- a lattice's values are the same for any number of dimensions
value_same : (d e : ℕ) (lookup : Lookup) (entry i : ℕ) → lookup.kind ≡ Lattice → value_at d lookup entry i ≡ value_at e lookup entry i
unfolding value_at
value_same d e lookup entry zero kind = ap (value_on lookup (pos 0)) (digit_same d e lookup entry 0 kind)
value_same d e lookup entry (suc i) kind =
    ap (λ v. value_on lookup (carried_on lookup v) (multiplicand_at d lookup entry (suc i))) (value_same d e lookup entry i kind)
    ∙ ap (value_on lookup (carried_on lookup (value_at e lookup entry i))) (digit_same d e lookup entry (suc i) kind)

pub lattice_first_values : (lookup : Lookup) (dimensions entry count : ℕ) → lookup.kind ≡ Lattice → count ≤ dimensions → vector_of count lookup entry ≡ take count (vector_of dimensions lookup entry)
unfolding vector_of
lattice_first_values lookup dimensions entry count kind few =
    let f = value_at dimensions lookup entry in
    let g = value_at count lookup entry in
    rw (take-map-range_with_len f 0 dimensions count few)
    (fill_by_all f (map g (range_with_len 0 count)) count (pos 0) (length-map-range_with_len g 0 count)
    (λ k h. get_or-map-range_with_len g 0 count k k (pos 0) h (omega arith) ∙ value_same count dimensions lookup entry k kind))

pub whole : (dimensions : ℕ) (lookup : Lookup) (entry : ℕ) → take dimensions (vector_of dimensions lookup entry) ≡ vector_of dimensions lookup entry
unfolding vector_of
whole dimensions lookup entry =
    let f = value_at dimensions lookup entry in
    take_all dimensions (map f (range_with_len 0 dimensions)) (omega (arith, length-map-range_with_len f 0 dimensions))

whole_by : (dimensions : ℕ) (lookup : Option Lookup) (read : Option (ℕ × List Bool)) → first_values_of dimensions (vector_by dimensions lookup read) ≡ vector_by dimensions lookup read
whole_by dimensions None read = refl
whole_by dimensions (Some lookup) None = refl
whole_by dimensions (Some lookup) (Some r) = ap (λ values. Some (values, r.1)) (whole dimensions lookup r.0)

-- as many values as there are dimensions are all
pub all_values : (book : Codebook) (left : List Bool) (count : ℕ) → count ≡ book.dimensions → first_values_of count (vector_at book left) ≡ vector_at book left
unfolding vector_at
all_values book left count all = rw all (whole_by book.dimensions book.lookup (entry_at book.lengths left))
