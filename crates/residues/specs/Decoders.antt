-- What a decoding works on, and the steps that lead from one state of it to another.
use Rattle.std.specs.Prelude.{◌≡◌, ℕ, min, ◌*◌, ◌^◌, ◌<◌, ◌≤◌, List, length, Bool, true, ℤ, fold, slice_set}
use Rattle.std.specs.List.{All}
use Rattle.model_setup.specs.declared.residue.ResidueKind.{ResidueKind}
use Rattle.model_setup.specs.declared.residue.ResidueKind.TheVariants.{Spread, InRow, Interleaved}
use Rattle.model_setup.specs.Codebook.{Codebook}
use Rattle.model_setup.specs.ResidueSetup.{ResidueSetup, FitsBooks}
use Rattle.model_setup.specs.ResidueDecoding.{Decoding, Step, after_step, classwords_of, partition_count, reading_places, add_all, vector_in}
use Rattle.residues.specs.Layout.{vectors_in, run_places, AreLines}
use Rattle.residues.specs.declared.adding.Run.{Run}
use Rattle.residues.specs.declared.decoder.Decoder.{Decoder}
use Rattle.residues.specs.declared.decoder.Workspace.{Workspace}

-- how many values each vector has, in so many lines of so many values
abbrev pub vector_size : ResidueKind → ℕ → ℕ → ℕ
vector_size Interleaved count size = size * count
vector_size Spread count size = size
vector_size InRow count size = size

-- how many vectors there are
abbrev pub vector_count : ResidueKind → ℕ → ℕ
vector_count Interleaved count = 1
vector_count Spread count = count
vector_count InRow count = count

-- the figures of a decoder are those of its residue, over vectors of its size
pub record IsDecoder (d : Decoder) : Type 0 where
  pub fits : FitsBooks d.books.now d.residue.now
  pub partitions : d.partitions ≡ partition_count d.residue.now d.size
  pub classwords : d.classwords ≡ classwords_of d.books.now d.residue.now
  pub few : d.classwords < 2 ^ 16

-- the lines are those of a decoder
pub record HasLines (d : Decoder) (lines : List (List ℤ)) : Type 0 where
  pub are_lines : AreLines d.line_size lines
  pub size : d.size ≤ vector_size d.residue.now.kind (length lines) d.line_size
  pub wanted : length d.wanted.now ≡ vector_count d.residue.now.kind (length lines)

-- there is a row of classes for each vector of a decoder
pub record HasRows (d : Decoder) (classes : List ℕ) : Type 0 where
  pub count : length classes ≡ length d.wanted.now * d.partitions
  pub named : All (λ class. class < length d.residue.now.cascades) classes

-- how many values a reading has at most, over vectors of so many values
unfoldable pub most_values : ResidueSetup → ℕ → ℕ
most_values residue size = min residue.partition_size size

-- the lines, the classes and the room for values fit a decoder
pub record HasRoom (d : Decoder) (w : Workspace) : Type 0 where
  pub decoder : IsDecoder d
  pub layout : HasLines d w.lines.now
  pub rows : HasRows d w.classes.now
  pub values : most_values d.residue.now d.size ≤ length w.values.now

-- the vectors of a decoder, in these lines
abbrev pub vectors_of : Decoder → List (List ℤ) → List (List ℤ)
vectors_of d lines = vectors_in d.residue.now.kind d.line_size lines

-- vectors of which one has values added at the places of a run
abbrev pub with_run : List (List ℤ) → ℕ → Run → List ℤ → List (List ℤ)
with_run vectors vector run values =
    slice_set vectors vector
    (add_all (vector_in vectors vector) (run_places run.first run.stride run.count) values)

-- the places of each reading of a partition that begins at this place, by a book
abbrev pub readings_of : Decoder → Codebook → ℕ → List (List ℕ)
readings_of d book first =
    reading_places d.residue.now.kind first d.residue.now.partition_size book.dimensions

-- ---- the state of a decoding

abbrev pub state : List (List ℤ) → List ℕ → List Bool → Bool → Decoding
state vectors classes left going =
    record { vectors = vectors; classes = classes; left = left; going = going }

-- the state that a workspace holds, where the packet goes on or has ended
abbrev pub state_of : Decoder → Workspace → Bool → Decoding
state_of d w going = state (vectors_of d w.lines.now) w.classes.now w.bits.now.left going

-- what a step does to the state
abbrev pub step_of : Decoder → Decoding → Step → Decoding
step_of d = after_step d.books.now d.residue.now d.size

-- the same reader over the same bytes, and the same lines
pub record KeepsParts (old new : Workspace) : Type 0 where
  pub bits : new.bits.ghost_name ≡ old.bits.ghost_name
  pub bytes : new.bits.now.total ≡ old.bits.now.total
  pub lines : new.lines.ghost_name ≡ old.lines.ghost_name
  pub line_count : length new.lines.now ≡ length old.lines.now

-- steps of one kind lead from what a workspace was to what it is, where the packet goes on or has
-- ended: the state is what they make of it, one after the other
pub record LeadsBy {S : Type 0} (step : Decoding → S → Decoding) (d : Decoder) (xs : List S)
    (old new : Workspace) (going : Bool) : Type 0 where
  pub after : state_of d new going ≡ fold step (state_of d old true) xs
  pub room : HasRoom d new
  pub parts : KeepsParts old new

-- steps of a decoding lead there
abbrev pub Leads : Decoder → List Step → Workspace → Workspace → Bool → Type 0
Leads d = LeadsBy (step_of d) d
