-- What the steps of a decoding leave as it is.
use Rattle.std.proofs.Common.{◌≡◌, ℕ, ◌+◌, ◌*◌, List, Bool, false, Option, Some, None, ℤ, refl}
use Rattle.std.proofs.lemmas.List.Folds.{fold_stays}
use Rattle.model_setup.specs.Codebook.{Codebook}
use Rattle.model_setup.specs.ResidueSetup.{ResidueSetup}
use Rattle.model_setup.specs.ResidueDecoding.{Step, Word, Part, book_of, pass_book, partition_count, reading_places, after_reading, with_part, after_step}
use Rattle.std.specs.Prelude.{slice_index}
use Rattle.residues.specs.Decoders.{state, state_of, step_of, vectors_of}
use Rattle.residues.specs.declared.decoder.Decoder.{Decoder}
use Rattle.residues.specs.declared.decoder.Workspace.{Workspace}

-- once the packet has ended, nothing changes
pub reading_stays : (book : Codebook) (vector : ℕ) (vectors : List (List ℤ)) (classes : List ℕ) (left : List Bool) (places : List ℕ) → after_reading book vector (state vectors classes left false) places ≡ state vectors classes left false
unfolding after_reading
reading_stays book vector vectors classes left places = refl

pub part_stays : (books : List Codebook) (residue : ResidueSetup) (partition vector : ℕ) (vectors : List (List ℤ)) (classes : List ℕ) (left : List Bool) (named : Option ℕ) → with_part books residue partition vector (state vectors classes left false) named ≡ state vectors classes left false
part_stays books residue partition vector vectors classes left None = refl
part_stays books residue partition vector vectors classes left (Some number) =
    fold_stays (after_reading (book_of books number) vector) (state vectors classes left false) (reading_stays (book_of books number) vector vectors classes left)
    (reading_places residue.kind (residue.begin + partition * residue.partition_size) residue.partition_size (book_of books number).dimensions)

pub step_stays : (books : List Codebook) (residue : ResidueSetup) (size : ℕ) (vectors : List (List ℤ)) (classes : List ℕ) (left : List Bool) (step : Step) → after_step books residue size (state vectors classes left false) step ≡ state vectors classes left false
unfolding after_step
step_stays books residue size vectors classes left (Word group vector) = refl
step_stays books residue size vectors classes left (Part pass partition vector) =
    part_stays books residue partition vector vectors classes left (pass_book residue (slice_index classes (vector * partition_count residue size + partition)) pass)

-- the same of what a workspace holds
pub reading_kept : (book : Codebook) (vector : ℕ) (d : Decoder) (w : Workspace) (places : List ℕ) → after_reading book vector (state_of d w false) places ≡ state_of d w false
reading_kept book vector d w places = reading_stays book vector (vectors_of d w.lines.now) w.classes.now w.bits.now.left places

pub step_kept : (d : Decoder) (w : Workspace) (step : Step) → step_of d (state_of d w false) step ≡ state_of d w false
step_kept d w step = step_stays d.books.now d.residue.now d.size (vectors_of d w.lines.now) w.classes.now w.bits.now.left step
