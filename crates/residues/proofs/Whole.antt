-- A whole decoding, from lines that are zero.
use Rattle.std.proofs.Common.{◌≡◌, ◌⊎◌, inl, inr, ℕ, ◌+◌, ◌-◌, ◌*◌, ◌/◌, min, List, [], ◌∷◌, Bool, cond, true, Option, Some, None, ℤ, pos, length, map, replicate, fold, refl, ap, sym, ◌∙◌, arith}
use Rattle.std.specs.List.{All, range_with_len}
use Rattle.model_setup.specs.Codebook.{Codebook}
use Rattle.model_setup.specs.Codewords.{entry_at}
use Rattle.model_setup.specs.declared.residue.ResidueKind.TheVariants.{Spread, InRow, Interleaved}
use Rattle.model_setup.specs.ResidueSetup.{ResidueSetup, FitsBooks}
use Rattle.model_setup.specs.ResidueDecoding.{Decoding, Step, Word, Part, book_of, classwords_of, partition_count, group_size, overwritten, classes_in, with_word, with_part, pass_book, after_step, steps, start, decoded_from, any_wanted, channel_of, vector_in, separated, by_kind, residue_vectors}
use Rattle.std.specs.Prelude.{slice_index}
use Rattle.residues.specs.Layout.{AreZero, together, vectors_in}
use Rattle.residues.specs.Decoders.{IsDecoder, state, step_of}
use Rattle.residues.specs.declared.decoder.Decoder.{Decoder}
use Rattle.residues.proofs.Layouts.{vectors_are_lines, vectors_are_one}
use Rattle.residues.proofs.Together.{lines_are_channels, zero_lines, together_zero}

fold_same : {A B : Type 0} (f g : A → B → A) → ((a : A) (x : B) → f a x ≡ g a x) → (a : A) (xs : List B) → fold f a xs ≡ fold g a xs
fold_same f g same a [] = refl
fold_same f g same a (x ∷ xs) = ap (λ s. fold f s xs) (same a x) ∙ fold_same f g same (g a x) xs

-- ---- sizes past the end of a residue are alike

-- both sizes cover as much of a residue
pub record AreAlike (residue : ResidueSetup) (a b : ℕ) : Type 0 where
  pub begin : min residue.begin a ≡ min residue.begin b
  pub end : min residue.end a ≡ min residue.end b

pub alike_up_to : (books : List Codebook) (residue : ResidueSetup) (a b : ℕ) → FitsBooks books residue → a ≡ min b 18446744073709551615 → AreAlike residue a b
alike_up_to books residue a b fits e =
    let begin = fits.begin in
    let end = fits.end in
    record { begin = omega arith; end = omega arith }

alike_count : (residue : ResidueSetup) (a b : ℕ) → AreAlike residue a b → partition_count residue a ≡ partition_count residue b
alike_count residue a b alike =
    ap (λ m. (m - min residue.begin a) / residue.partition_size) alike.end ∙ ap (λ m. (min residue.end b - m) / residue.partition_size) alike.begin

alike_word : (books : List Codebook) (residue : ResidueSetup) (a b group vector : ℕ) → AreAlike residue a b → (d : Decoding) (read : Option (ℕ × List Bool)) → with_word books residue a group vector d read ≡ with_word books residue b group vector d read
alike_word books residue a b group vector alike d None = refl
alike_word books residue a b group vector alike d (Some read) =
    let classwords = classwords_of books residue in
    ap (λ n. state d.vectors (overwritten d.classes (vector * n + group * classwords) (classes_in (length residue.cascades) classwords (group_size n classwords group) read.0)) read.1 true) (alike_count residue a b alike)

if_same : {A : Type 0} (b : Bool) (x y z : A) → x ≡ y → cond b x z ≡ cond b y z
if_same b x y z e = ap (λ w. cond b w z) e

alike_step : (books : List Codebook) (residue : ResidueSetup) (a b : ℕ) → AreAlike residue a b → (d : Decoding) (step : Step) → after_step books residue a d step ≡ after_step books residue b d step
unfolding after_step
alike_step books residue a b alike d (Word group vector) =
    if_same d.going (with_word books residue a group vector d (entry_at (book_of books residue.class_book).lengths d.left)) (with_word books residue b group vector d (entry_at (book_of books residue.class_book).lengths d.left)) d
    (alike_word books residue a b group vector alike d (entry_at (book_of books residue.class_book).lengths d.left))
alike_step books residue a b alike d (Part pass partition vector) =
    ap (λ w. with_part books residue partition vector d (pass_book residue (slice_index d.classes (vector * w + partition)) pass)) (alike_count residue a b alike)

pub alike_decoded : (books : List Codebook) (residue : ResidueSetup) (a b : ℕ) (wanted : List Bool) → AreAlike residue a b → (d : Decoding) → decoded_from books residue a wanted d ≡ decoded_from books residue b wanted d
unfolding decoded_from
alike_decoded books residue a b wanted alike d =
    fold_same (after_step books residue a) (after_step books residue b) (alike_step books residue a b alike) d (steps (partition_count residue a) (classwords_of books residue) wanted)
    ∙ ap (λ n. fold (after_step books residue b) d (steps n (classwords_of books residue) wanted)) (alike_count residue a b alike)

-- ---- what a decoder does is the decoding of its residue

pub decoder_decodes : (d : Decoder) (vectors : List (List ℤ)) (classes : List ℕ) (left : List Bool) (end : Decoding) → IsDecoder d → classes ≡ replicate (length d.wanted.now * d.partitions) 0
    → end ≡ fold (step_of d) (state vectors classes left true) (steps d.partitions d.classwords d.wanted.now)
    → end ≡ decoded_from d.books.now d.residue.now d.size d.wanted.now (state vectors (replicate (length d.wanted.now * partition_count d.residue.now d.size) 0) left true)
unfolding decoded_from
decoder_decodes d vectors classes left end is none after =
    let begin = λ (n : ℕ). state vectors (replicate (length d.wanted.now * n) 0) left true in
    after
    ∙ ap (λ cs. fold (step_of d) (state vectors cs left true) (steps d.partitions d.classwords d.wanted.now)) none
    ∙ ap (λ n. fold (step_of d) (begin n) (steps n d.classwords d.wanted.now)) is.partitions
    ∙ ap (λ n. fold (step_of d) (begin (partition_count d.residue.now d.size)) (steps (partition_count d.residue.now d.size) n d.wanted.now)) is.classwords

-- ---- the vectors of each kind

pub lines_decoded : (books : List Codebook) (residue : ResidueSetup) (size : ℕ) (wanted : List Bool) (left rest : List Bool) (lines new : List (List ℤ)) (classes : List ℕ) (going : Bool) → (residue.kind ≡ Spread) ⊎ (residue.kind ≡ InRow)
    → All (λ line. length line ≡ size) lines → AreZero lines → length wanted ≡ length lines
    → state (vectors_in residue.kind size new) classes rest going ≡ decoded_from books residue size wanted (state (vectors_in residue.kind size lines) (replicate (length wanted * partition_count residue size) 0) left true)
    → ◌≡◌ {A = List (List ℤ) × List Bool} (new, rest) (residue_vectors books residue size wanted left)
unfolding residue_vectors
lines_decoded books residue size wanted left rest lines new classes going kinds sizes zero count after =
    let begin : vectors_in residue.kind size lines ≡ replicate (length wanted) (replicate size (pos 0)) =
    vectors_are_lines residue.kind size lines kinds ∙ zero_lines size lines sizes zero ∙ ap (λ n. replicate n (replicate size (pos 0))) (sym count) in
    let all = after ∙ ap (λ vs. decoded_from books residue size wanted (state vs (replicate (length wanted * partition_count residue size) 0) left true)) begin in
    let shown : by_kind residue.kind books residue size wanted left ≡ by_kind Spread books residue size wanted left =
    elim kinds [ inl e ↦ ap (λ k. by_kind k books residue size wanted left) e | inr e ↦ ap (λ k. by_kind k books residue size wanted left) e ] in
    ap {B = List (List ℤ) × List Bool} (λ vs. (vs, rest)) (sym (vectors_are_lines residue.kind size new kinds)) ∙ ap (λ (d : Decoding). (d.vectors, d.left)) all ∙ sym shown

pub one_decoded : (books : List Codebook) (residue : ResidueSetup) (size span : ℕ) (wanted : List Bool) (left rest : List Bool) (lines new : List (List ℤ)) (classes : List ℕ) (going : Bool) → residue.kind ≡ Interleaved
    → AreAlike residue span (size * length wanted) → All (λ line. length line ≡ size) lines → AreZero lines → length wanted ≡ length lines → All (λ line. length line ≡ size) new → length new ≡ length lines
    → state (vectors_in residue.kind size new) classes rest going ≡ decoded_from books residue span (any_wanted wanted) (state (vectors_in residue.kind size lines) (replicate (1 * partition_count residue span) 0) left true)
    → ◌≡◌ {A = List (List ℤ) × List Bool} (new, rest) (residue_vectors books residue size wanted left)
unfolding residue_vectors
one_decoded books residue size span wanted left rest lines new classes going kind alike sizes zero count new_sizes new_count after =
    let all = size * length wanted in
    let begin : vectors_in residue.kind size lines ≡ replicate all (pos 0) ∷ [] =
    vectors_are_one residue.kind size lines kind ∙ ap (λ v. v ∷ []) (together_zero size lines sizes zero ∙ ap (λ n. replicate (size * n) (pos 0)) (sym count)) in
    let whole = after
    ∙ ap (λ vs. decoded_from books residue span (any_wanted wanted) (state vs (replicate (1 * partition_count residue span) 0) left true)) begin
    ∙ ap (λ w. decoded_from books residue span (any_wanted wanted) (state (replicate all (pos 0) ∷ []) (replicate (1 * w) 0) left true)) (alike_count residue span all alike)
    ∙ alike_decoded books residue span all (any_wanted wanted) alike (start residue all 1 left) in
    let same : length wanted ≡ length new = count ∙ sym new_count in
    let apart : new ≡ map (channel_of (together size new) (length wanted) size) (range_with_len 0 (length wanted)) =
    sym (lines_are_channels size new new_sizes) ∙ ap (λ n. map (channel_of (together size new) n size) (range_with_len 0 n)) (sym same) in
    let shown : by_kind residue.kind books residue size wanted left ≡ by_kind Interleaved books residue size wanted left = ap (λ k. by_kind k books residue size wanted left) kind in
    ap {B = List (List ℤ) × List Bool} (λ vs. (vs, rest))
    (apart ∙ ap (λ vs. map (channel_of (vector_in vs 0) (length wanted) size) (range_with_len 0 (length wanted))) (sym (vectors_are_one residue.kind size new kind)))
    ∙ ap (separated (length wanted) size) whole ∙ sym shown
