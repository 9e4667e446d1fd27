-- What a run of the program answers, what it writes, and when.
use Rattle.std.specs.Prelude.{◌≡◌, ℕ, ◌<◌, ◌≤◌, ◌⊎◌, List, length, Option, Some, None}
use Rattle.std.specs.Io.KnownBytes.{Appends, Keeps}
use Rattle.vf_outside.specs.Told.{Told, MayGive, MayBeTooLong, AppendsPart}
use Rattle.vf_outside.specs.Faults.{Rose}
use Rattle.model_player.specs.declared.status.Status.{Status}
use Rattle.model_player.specs.declared.status.Status.TheVariants as statuses
use Rattle.model_player.specs.Commands.{Command, Plays}
use Rattle.model_player.specs.Texts.{memory_line, cannot_read_line, too_long_line}
use Rattle.model_player.specs.Courses.{Puts, in_parts, Duty, writes, refuses, Course, comes_to, reads, course_of}

-- ---- the runs of a shelf and of a sink

-- a shelf over a run: what it tells of each name, and each name's count of faults
pub record ShelfRun : Type 0 where
  pub told : List ℕ → Told
  pub faults_before : List ℕ → ℕ
  pub faults_after : List ℕ → ℕ

-- a sink over a run: the bytes written, where they are told, and its count of faults
pub record SinkRun : Type 0 where
  pub before : Option (List ℕ)
  pub after : Option (List ℕ)
  pub faults_before : ℕ
  pub faults_after : ℕ

-- by the members of the shelf's trait
abbrev pub shelf_run : {S : Type 0} → (S → List ℕ → Told) → (S → List ℕ → ℕ) → S → S → ShelfRun
shelf_run told faults old new =
    record { told = told old; faults_before = faults old; faults_after = faults new }

-- by the members of the sink's trait
abbrev pub sink_run : {S : Type 0} → (S → Option (List ℕ)) → (S → ℕ) → S → S → SinkRun
sink_run written faults old new = record {
  before = written old;
  after = written new;
  faults_before = faults old;
  faults_after = faults new;
}

-- the sink has gained these bytes
abbrev pub Gains : SinkRun → List ℕ → Type 0
Gains sink bytes = Appends sink.before sink.after bytes

-- the sink has gained a front of these bytes
abbrev pub Begins : SinkRun → List ℕ → Type 0
Begins sink bytes = AppendsPart sink.before sink.after bytes

-- the sink failed, and has gained a front of these bytes
abbrev pub Breaks : SinkRun → List ℕ → Type 0
Breaks sink bytes = Rose sink.faults_before sink.faults_after × Begins sink bytes

-- the sink holds what it held
abbrev pub IsKept : SinkRun → Type 0
IsKept sink = Keeps sink.before sink.after

-- one put of these bytes was tried: it was done, or failed, or found no memory
abbrev pub Tries : SinkRun → List ℕ → Type 0
Tries sink bytes = Gains sink bytes ⊎ (Breaks sink bytes ⊎ IsKept sink)

-- ---- what may be due

-- The bytes that a file may have, by what is told of its name, within its limit.
pub record MayHave (told : Told) (limit : ℕ) (bytes : List ℕ) : Type 0 where
  pub given : MayGive told bytes
  pub short : length bytes ≤ limit

-- the refusals of a file that cannot be read, and of one with more bytes than its limit
abbrev pub unread : List ℕ → Duty
unread name = refuses statuses.Input (cannot_read_line name)

abbrev pub too_long : List ℕ → ℕ → Duty
too_long name limit = refuses statuses.TooLong (too_long_line name limit)

-- A file may be the reason of a refusal before its bytes are known: its count of faults rose, or it
-- may have more bytes than its limit.
abbrev pub MayFail : ShelfRun → List ℕ → ℕ → Duty → Type 0
MayFail shelf name limit duty =
    ((duty ≡ unread name) × Rose (shelf.faults_before name) (shelf.faults_after name))
    ⊎ ((duty ≡ too_long name limit) × MayBeTooLong (shelf.told name) limit)

-- A course may come to a duty: by bytes that the files may have which it reads, or by one of them
-- that fails.
abbrev pub MayComeTo : Course → ShelfRun → Duty → Type 0
MayComeTo (comes_to due) shelf duty = duty ≡ due
MayComeTo (reads name limit next) shelf duty = MayFail shelf name limit duty
    ⊎ ((bytes : List ℕ) × MayHave (shelf.told name) limit bytes
    × MayComeTo (next bytes) shelf duty)

-- ---- what each status says

-- The output was due, and is on `out`.
abbrev pub Written : Course → ShelfRun → SinkRun → SinkRun → Type 0
Written course shelf out notes = (puts : Puts) × (bytes : List ℕ)
    × MayComeTo course shelf (writes puts bytes) × Gains out bytes × IsKept notes

-- A refusal was due: its line is on `notes`, and nothing on `out`.
abbrev pub Refused : Course → ShelfRun → SinkRun → SinkRun → Status → Type 0
Refused course shelf out notes status = (line : List ℕ)
    × MayComeTo course shelf (refuses status line) × Gains notes line × IsKept out

-- A sink failed: the output was due, and a front of it is on `out`; or the line of a refusal was,
-- and a front of it is on `notes`.
abbrev pub Broken : Course → ShelfRun → SinkRun → SinkRun → Type 0
Broken course shelf out notes =
    ((puts : Puts) × (bytes : List ℕ) × MayComeTo course shelf (writes puts bytes)
    × Breaks out bytes × IsKept notes)
    ⊎ ((status : Status) × (line : List ℕ) × MayComeTo course shelf (refuses status line)
    × Breaks notes line × IsKept out)

-- Memory ran out before the output was whole: nothing is on `out`, or a front of an output that is
-- written in parts. The line `memory` was tried on `notes`.
abbrev pub LeftOff : Course → ShelfRun → SinkRun → SinkRun → Type 0
LeftOff course shelf out notes = Tries notes memory_line
    × (IsKept out ⊎ ((bytes : List ℕ) × MayComeTo course shelf (writes in_parts bytes)
    × Begins out bytes))

-- What each status says of a command's course, the shelf and the two sinks.
abbrev pub Outcome : Course → ShelfRun → SinkRun → SinkRun → Status → Type 0
Outcome course shelf out notes statuses.Ok = Written course shelf out notes
Outcome course shelf out notes statuses.Output = Broken course shelf out notes
Outcome course shelf out notes statuses.Memory = LeftOff course shelf out notes
Outcome course shelf out notes status = Refused course shelf out notes status

-- ---- where nothing fails

-- the shelf tells the bytes of a file, and its count of faults did not rise
pub record ReadsWell (shelf : ShelfRun) (name bytes : List ℕ) : Type 0 where
  pub told : shelf.told name ≡ Some (Some bytes)
  pub well : ¬ Rose (shelf.faults_before name) (shelf.faults_after name)

-- A course must come to a duty: all files read well that it reads on the way, and lead to it.
abbrev pub MustComeTo : Course → ShelfRun → Duty → Type 0
MustComeTo (comes_to due) shelf duty = duty ≡ due
MustComeTo (reads name limit next) shelf duty = (bytes : List ℕ) × ReadsWell shelf name bytes
    × (((limit < length bytes) × (duty ≡ too_long name limit))
    ⊎ ((length bytes ≤ limit) × MustComeTo (next bytes) shelf duty))

-- the duty was done
abbrev pub Does : Duty → SinkRun → SinkRun → Status → Type 0
Does (writes puts bytes) out notes status =
    (status ≡ statuses.Ok) × Gains out bytes × IsKept notes
Does (refuses due line) out notes status = (status ≡ due) × Gains notes line × IsKept out

-- Where all files read well and no sink's count of faults rose, the duty was done, or memory ran
-- out.
abbrev pub Completes : Course → ShelfRun → SinkRun → SinkRun → Status → Type 0
Completes course shelf out notes status = (duty : Duty) → MustComeTo course shelf duty
    → ¬ Rose out.faults_before out.faults_after → ¬ Rose notes.faults_before notes.faults_after
    → Does duty out notes status ⊎ (status ≡ statuses.Memory)

-- ---- a run

-- What the program promises: what its status says is so, its duty is done where nothing fails, and
-- only words that are no command are answered as such.
pub record Runs (command : Option Command) (shelf : ShelfRun) (out notes : SinkRun)
    (status : Status) : Type 0 where
  pub outcome : Outcome (course_of command) shelf out notes status
  pub completes : Completes (course_of command) shelf out notes status
  pub usage : status ≡ statuses.Usage → command ≡ None

-- ---- without threads

-- What is promised of a run without threads: the same, and that the command plays no script.
pub record RunsAlone (command : Option Command) (shelf : ShelfRun) (out notes : SinkRun)
    (status : Status) : Type 0 where
  pub alone : ¬ Plays command
  pub runs : Runs command shelf out notes status

-- A play or a trial was left to a run with threads, and nothing was used for it: the shelf and the
-- sinks, each before and after, are what they were.
pub record IsLeft {F K N : Type 0} (command : Option Command) (shelf : F × F) (out : K × K)
    (notes : N × N) : Type 0 where
  pub play : Plays command
  pub shelf_stays : shelf.1 ≡ shelf.0
  pub out_stays : out.1 ≡ out.0
  pub notes_stays : notes.1 ≡ notes.0
