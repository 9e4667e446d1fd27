-- How many vectors a residue gives, and how many values each has.
use Rattle.std.proofs.Common.{◌≡◌, ℕ, zero, suc, ◌*◌, ◌+◌, ℤ, pos, Bool, true, false, cond, List, [], ◌∷◌, length, length-set, map, replicate, Option, Some, None, refl, sym, ap, ◌∙◌}
use Rattle.std.specs.Prelude.{fold, slice_set, slice_index, slice_index_or, ◌+ℤ◌}
use Rattle.std.specs.List.{range_with_len, zip}
use Rattle.std.proofs.Math.ListN.{get_or-map}
use Rattle.std.proofs.lemmas.List.{length-replicate, map-set, set-get_or}
use Rattle.std.proofs.lemmas.List.FromFn.{length-map-range_with_len}
use Rattle.model_fixed.specs.Fixed.{limited}
use Rattle.model_setup.specs.declared.residue.ResidueKind.{ResidueKind}
use Rattle.model_setup.specs.declared.residue.ResidueKind.TheVariants.{Spread, InRow, Interleaved}
use Rattle.model_setup.specs.Codebook.{Codebook}
use Rattle.model_setup.specs.Codewords.{entry_at}
use Rattle.model_setup.specs.Vectors.{vector_at}
use Rattle.model_setup.specs.ResidueSetup.{ResidueSetup}
use Rattle.model_setup.specs.ResidueDecoding.{Step, Word, Part, steps, Decoding, book_of, classwords_of, partition_count, with_word, add_to, reading_places, vector_in, add_all, with_values, after_reading, with_part, pass_book, after_step, decoded_from, start, channel_of, any_wanted, by_kind, residue_vectors}

-- how many values each has
abbrev pub lengths : List (List ℤ) → List ℕ
lengths values = map length values

-- ---- readings leave the sizes of vectors as they are

added_length : (values : List ℤ) (terms : List (ℕ × ℤ)) → length (fold add_to values terms) ≡ length values
added_length values [] = refl
added_length values (term ∷ terms) = added_length (add_to values term) terms ∙ length-set values term.0 (limited (slice_index_or values term.0 (pos 0) +ℤ term.1))

set_lengths : (vectors : List (List ℤ)) (vector : ℕ) (now : List ℤ) → length now ≡ length (vector_in vectors vector) → lengths (slice_set vectors vector now) ≡ lengths vectors
set_lengths vectors vector now same =
    map-set length vectors vector now
    ∙ (ap (slice_set (lengths vectors) vector) (same ∙ sym (get_or-map length vectors vector []))
    ∙ set-get_or (lengths vectors) vector 0)

values_lengths : (vector : ℕ) (d : Decoding) (places : List ℕ) (read : Option (List ℤ × List Bool)) → lengths (with_values vector d places read).vectors ≡ lengths d.vectors
values_lengths vector d places None = refl
values_lengths vector d places (Some read) = set_lengths d.vectors vector (add_all (vector_in d.vectors vector) places read.0) (added_length (vector_in d.vectors vector) (zip places read.0))

either_lengths : (b : Bool) (now d : Decoding) → lengths now.vectors ≡ lengths d.vectors → lengths (cond b now d).vectors ≡ lengths d.vectors
either_lengths true now d same = same
either_lengths false now d same = refl

reading_lengths : (book : Codebook) (vector : ℕ) (d : Decoding) (places : List ℕ) → lengths (after_reading book vector d places).vectors ≡ lengths d.vectors
unfolding after_reading
reading_lengths book vector d places = either_lengths d.going (with_values vector d places (vector_at book d.left)) d (values_lengths vector d places (vector_at book d.left))

fold_lengths : {X : Type 0} (step : Decoding → X → Decoding) → ((d : Decoding) (x : X) → lengths (step d x).vectors ≡ lengths d.vectors) → (d : Decoding) (xs : List X) → lengths (fold step d xs).vectors ≡ lengths d.vectors
fold_lengths step same d [] = refl
fold_lengths step same d (x ∷ xs) = fold_lengths step same (step d x) xs ∙ same d x

part_lengths : (books : List Codebook) (residue : ResidueSetup) (partition vector : ℕ) (d : Decoding) (number : Option ℕ) → lengths (with_part books residue partition vector d number).vectors ≡ lengths d.vectors
part_lengths books residue partition vector d None = refl
part_lengths books residue partition vector d (Some number) =
    let book = book_of books number in
    fold_lengths (after_reading book vector) (reading_lengths book vector) d (reading_places residue.kind (residue.begin + partition * residue.partition_size) residue.partition_size book.dimensions)

word_lengths : (books : List Codebook) (residue : ResidueSetup) (size group vector : ℕ) (d : Decoding) (read : Option (ℕ × List Bool)) → lengths (with_word books residue size group vector d read).vectors ≡ lengths d.vectors
word_lengths books residue size group vector d None = refl
word_lengths books residue size group vector d (Some read) = refl

step_lengths : (books : List Codebook) (residue : ResidueSetup) (size : ℕ) (d : Decoding) (step : Step) → lengths (after_step books residue size d step).vectors ≡ lengths d.vectors
unfolding after_step
step_lengths books residue size d (Word group vector) =
    let read = entry_at (book_of books residue.class_book).lengths d.left in
    either_lengths d.going (with_word books residue size group vector d read) d (word_lengths books residue size group vector d read)
step_lengths books residue size d (Part pass partition vector) =
    part_lengths books residue partition vector d (pass_book residue (slice_index d.classes (vector * partition_count residue size + partition)) pass)

decoded_lengths : (books : List Codebook) (residue : ResidueSetup) (size : ℕ) (wanted : List Bool) (d : Decoding) → lengths (decoded_from books residue size wanted d).vectors ≡ lengths d.vectors
unfolding decoded_from
decoded_lengths books residue size wanted d =
    fold_lengths (after_step books residue size) (step_lengths books residue size) d (steps (partition_count residue size) (classwords_of books residue) wanted)

-- ---- the vectors of a residue

zeros_lengths : (count size : ℕ) → lengths (replicate count (replicate size (pos 0))) ≡ replicate count size
zeros_lengths zero size = refl
zeros_lengths (suc count) size = rw (length-replicate size (pos 0), zeros_lengths count size) refl

separated_lengths : (together : List ℤ) (count size a n : ℕ) → lengths (map (channel_of together count size) (range_with_len a n)) ≡ replicate n size
separated_lengths together count size a zero = refl
separated_lengths together count size a (suc n) =
    let here : length (channel_of together count size a) ≡ size = length-map-range_with_len (λ i. slice_index_or together (i * count + a) (pos 0)) 0 size in
    rw (here, separated_lengths together count size (a + 1) n) refl

kind_lengths : (kind : ResidueKind) (books : List Codebook) (residue : ResidueSetup) (size : ℕ) (wanted left : List Bool) → lengths (by_kind kind books residue size wanted left).0 ≡ replicate (length wanted) size
kind_lengths Spread books residue size wanted left = decoded_lengths books residue size wanted (start residue size (length wanted) left) ∙ zeros_lengths (length wanted) size
kind_lengths InRow books residue size wanted left = decoded_lengths books residue size wanted (start residue size (length wanted) left) ∙ zeros_lengths (length wanted) size
kind_lengths Interleaved books residue size wanted left =
    let all = size * length wanted in
    separated_lengths (vector_in (decoded_from books residue all (any_wanted wanted) (start residue all 1 left)).vectors 0) (length wanted) size 0 (length wanted)

-- a vector for each that is wanted or not, each of so many values
pub vector_lengths : (books : List Codebook) (residue : ResidueSetup) (size : ℕ) (wanted left : List Bool) → lengths (residue_vectors books residue size wanted left).0 ≡ replicate (length wanted) size
unfolding residue_vectors
vector_lengths books residue size wanted left = kind_lengths residue.kind books residue size wanted left
