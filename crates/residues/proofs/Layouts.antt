-- What is added to lines, seen as the vectors of a kind.
use Rattle.std.proofs.Common.{◌≡◌, ◌⊎◌, inl, inr, ℕ, ◌<◌, List, [], ◌∷◌, length, get_or, set, ℤ, ap, sym, ◌∙◌, length-set}
use Rattle.std.specs.List.{All}
use Rattle.std.proofs.lemmas.List.{get_or_default}
use Rattle.std.proofs.lemmas.List.Elements.{All-set}
use Rattle.model_fixed.specs.Fixed.{IsWithinLimit}
use Rattle.model_setup.specs.declared.residue.ResidueKind.{ResidueKind}
use Rattle.model_setup.specs.declared.residue.ResidueKind.TheVariants.{Spread, InRow, Interleaved}
use Rattle.model_setup.specs.ResidueDecoding.{add_all, vector_in}
use Rattle.residues.specs.Layout.{together, vectors_in}
use Rattle.residues.specs.Decoders.{vector_size, vector_count, HasLines}
use Rattle.residues.specs.declared.decoder.Decoder.{Decoder}

pub vectors_are_lines : (kind : ResidueKind) (size : ℕ) (lines : List (List ℤ)) → (kind ≡ Spread) ⊎ (kind ≡ InRow) → vectors_in kind size lines ≡ lines
unfolding vectors_in
vectors_are_lines kind size lines kinds = elim kinds [ inl e ↦ ap (λ k. vectors_in k size lines) e | inr e ↦ ap (λ k. vectors_in k size lines) e ]

pub count_is_lines : (kind : ResidueKind) (count : ℕ) → (kind ≡ Spread) ⊎ (kind ≡ InRow) → vector_count kind count ≡ count
count_is_lines kind count kinds = elim kinds [ inl e ↦ ap (λ k. vector_count k count) e | inr e ↦ ap (λ k. vector_count k count) e ]

pub size_is_line : (kind : ResidueKind) (count size : ℕ) → (kind ≡ Spread) ⊎ (kind ≡ InRow) → vector_size kind count size ≡ size
size_is_line kind count size kinds = elim kinds [ inl e ↦ ap (λ k. vector_size k count size) e | inr e ↦ ap (λ k. vector_size k count size) e ]

pub vectors_are_one : (kind : ResidueKind) (size : ℕ) (lines : List (List ℤ)) → kind ≡ Interleaved → vectors_in kind size lines ≡ together size lines ∷ []
unfolding vectors_in
vectors_are_one kind size lines e = ap (λ k. vectors_in k size lines) e

-- values that are added to one line
pub line_added : (kind : ResidueKind) (size : ℕ) (lines : List (List ℤ)) (vector : ℕ) (line d : List ℤ) (run places : List ℕ) (values : List ℤ) → (kind ≡ Spread) ⊎ (kind ≡ InRow) → vector < length lines
    → line ≡ add_all (get_or lines vector d) run values → run ≡ places
    → vectors_in kind size (set lines vector line) ≡ set (vectors_in kind size lines) vector (add_all (vector_in (vectors_in kind size lines) vector) places values)
line_added kind size lines vector line d run places values kinds lt added same =
    vectors_are_lines kind size (set lines vector line) kinds
    ∙ ap (set lines vector) (added ∙ ap (λ l. add_all l run values) (get_or_default lines vector d [] lt) ∙ ap (λ p. add_all (get_or lines vector []) p values) same)
    ∙ ap (λ vs. set vs vector (add_all (vector_in vs vector) places values)) (sym (vectors_are_lines kind size lines kinds))

-- values that are added across the lines
pub across_added : (kind : ResidueKind) (size : ℕ) (lines new : List (List ℤ)) (vector : ℕ) (run places : List ℕ) (values : List ℤ) → kind ≡ Interleaved → vector ≡ 0
    → together size new ≡ add_all (together size lines) run values → run ≡ places
    → vectors_in kind size new ≡ set (vectors_in kind size lines) vector (add_all (vector_in (vectors_in kind size lines) vector) places values)
across_added kind size lines new vector run places values e first added same =
    vectors_are_one kind size new e
    ∙ ap (λ v. v ∷ []) (added ∙ ap (λ p. add_all (together size lines) p values) same)
    ∙ ap (λ i. set (together size lines ∷ []) i (add_all (vector_in (together size lines ∷ []) i) places values)) (sym first)
    ∙ ap (λ vs. set vs vector (add_all (vector_in vs vector) places values)) (sym (vectors_are_one kind size lines e))

-- one line is another of the same size
pub lines_with : (d : Decoder) (lines : List (List ℤ)) (vector : ℕ) (line : List ℤ) → HasLines d lines → length line ≡ d.line_size → All IsWithinLimit line → HasLines d (set lines vector line)
lines_with d lines vector line has size small =
    let n : length (set lines vector line) ≡ length lines = length-set lines vector line in
    record {
      are_lines = record {
        sizes = All-set (λ l. length l ≡ d.line_size) lines vector line size has.are_lines.sizes;
        small = All-set (All IsWithinLimit) lines vector line small has.are_lines.small;
      };
      size = rw n has.size;
      wanted = rw n has.wanted;
    }
