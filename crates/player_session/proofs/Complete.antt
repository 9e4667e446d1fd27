-- Where nothing fails, the duty was done.
use Rattle.std.proofs.Common.{◌≡◌, ◌≢◌, ℕ, ◌≤◌, ◌<◌, List, length, Option, Some, None, Result, Ok, Err, refl, sym, ap, subst, ◌∙◌, inl, inr, arith}
use Rattle.vf_outside.specs.Told.{Told, MayBeTooLong}
use Rattle.model_script.specs.declared.counts.Counts.{Counts}
use Rattle.model_player.specs.declared.status.Status.{Status}
use Rattle.model_player.specs.declared.status.Status.TheVariants as statuses
use Rattle.model_line.specs.Acceptance.{film_of}
use Rattle.model_synthesis.specs.ConstantsFile.{constants_of}
use Rattle.model_script.specs.Scripts.{script_of}
use Rattle.model_player.specs.Commands.{Command, info, dump, play, trial}
use Rattle.model_player.specs.Courses.{Duty, writes, refuses, Course, comes_to, reads, judged, constants_refusal, film_refusal, script_refusal, course_of}
use Rattle.model_player.specs.Outcome.{ShelfRun, SinkRun, MayHave, MayComeTo, MustComeTo, Does, Outcome, Completes, Runs}

-- ---- what may be due is what must be

-- a file is the one that is told
same_file : (t : Told) (limit : ℕ) (told other : List ℕ) → t ≡ Some (Some told) → MayHave t limit other → other ≡ told
same_file t limit told other e h = let given = rw e at h.given in given

is_long : (t : Told) (limit : ℕ) (told : List ℕ) → t ≡ Some (Some told) → MayBeTooLong t limit → limit < length told
is_long t limit told e h = let long = rw e at h in long

determined : (course : Course) (shelf : ShelfRun) (may must : Duty) → MayComeTo course shelf may → MustComeTo course shelf must → may ≡ must
determined (comes_to due) shelf may must a b = a ∙ sym b
determined (reads name limit next) shelf may must (inl (inl (e, rose))) (told, well, way) = absurd (well.well rose)
determined (reads name limit next) shelf may must (inl (inr (e, long))) (told, well, inl (over, is)) = e ∙ sym is
determined (reads name limit next) shelf may must (inl (inr (e, long))) (told, well, inr (short, way)) =
    let over = is_long (shelf.told name) limit told well.told long in
    absurd (omega arith)
determined (reads name limit next) shelf may must (inr (bytes, have, due)) (told, well, inl (over, is)) =
    let same : length bytes ≡ length told = ap length (same_file (shelf.told name) limit told bytes well.told have) in
    let short : length bytes ≤ limit = have.short in
    absurd (omega arith)
determined (reads name limit next) shelf may must (inr (bytes, have, due)) (told, well, inr (short, way)) =
    let same = same_file (shelf.told name) limit told bytes well.told have in
    determined (next told) shelf may must (subst (λ (bs : List ℕ). MayComeTo (next bs) shelf may) same due) way

complete : (course : Course) (shelf : ShelfRun) (out notes : SinkRun) (status : Status) → Outcome course shelf out notes status → Completes course shelf out notes status
complete course shelf out notes statuses.Ok (puts, bytes, due, gains, kept) = λ duty must no-out no-notes.
    inl (subst (λ (d : Duty). Does d out notes statuses.Ok) (determined course shelf (writes puts bytes) duty due must) (refl, gains, kept))
complete course shelf out notes statuses.Output (inl broken) = λ duty must no-out no-notes. absurd (no-out broken.3.0)
complete course shelf out notes statuses.Output (inr broken) = λ duty must no-out no-notes. absurd (no-notes broken.3.0)
complete course shelf out notes statuses.Memory o = λ duty must no-out no-notes. inr refl
complete course shelf out notes statuses.Usage (line, due, gains, kept) = λ duty must no-out no-notes.
    inl (subst (λ (d : Duty). Does d out notes statuses.Usage) (determined course shelf (refuses statuses.Usage line) duty due must) (refl, gains, kept))
complete course shelf out notes statuses.Input (line, due, gains, kept) = λ duty must no-out no-notes.
    inl (subst (λ (d : Duty). Does d out notes statuses.Input) (determined course shelf (refuses statuses.Input line) duty due must) (refl, gains, kept))
complete course shelf out notes statuses.Constants (line, due, gains, kept) = λ duty must no-out no-notes.
    inl (subst (λ (d : Duty). Does d out notes statuses.Constants) (determined course shelf (refuses statuses.Constants line) duty due must) (refl, gains, kept))
complete course shelf out notes statuses.Film (line, due, gains, kept) = λ duty must no-out no-notes.
    inl (subst (λ (d : Duty). Does d out notes statuses.Film) (determined course shelf (refuses statuses.Film line) duty due must) (refl, gains, kept))
complete course shelf out notes statuses.Script (line, due, gains, kept) = λ duty must no-out no-notes.
    inl (subst (λ (d : Duty). Does d out notes statuses.Script) (determined course shelf (refuses statuses.Script line) duty due must) (refl, gains, kept))
complete course shelf out notes statuses.TooLong (line, due, gains, kept) = λ duty must no-out no-notes.
    inl (subst (λ (d : Duty). Does d out notes statuses.TooLong) (determined course shelf (refuses statuses.TooLong line) duty due must) (refl, gains, kept))

-- ---- only words that are no command are answered as such

-- a course that never comes to such an answer
NotUsage : Course → Type 0
NotUsage (comes_to due) = (line : List ℕ) → due ≢ refuses statuses.Usage line
NotUsage (reads name limit next) = (bytes : List ℕ) → NotUsage (next bytes)

never : (course : Course) (shelf : ShelfRun) (line : List ℕ) → NotUsage course → ¬ MayComeTo course shelf (refuses statuses.Usage line)
unfolding NotUsage
never (comes_to due) shelf line n d = n line (sym d)
never (reads name limit next) shelf line n (inl (inl (e, rose))) = cc
never (reads name limit next) shelf line n (inl (inr (e, long))) = cc
never (reads name limit next) shelf line n (inr (bytes, have, d)) = never (next bytes) shelf line (n bytes) d

judged_never : {A E : Type 0} (r : Result A E) (refusal : E → Duty) (next : A → Course) → ((fault : E) → NotUsage (comes_to (refusal fault))) → ((value : A) → NotUsage (next value)) → NotUsage (judged r refusal next)
judged_never (Ok value) refusal next f n = n value
judged_never (Err fault) refusal next f n = f fault

command_never : (command : Command) → NotUsage (course_of (Some command))
unfolding NotUsage
command_never (info film) = λ bytes. judged_never (film_of bytes) film_refusal _ (λ fault line e. cc) (λ links line e. cc)
command_never (dump constants film) = λ bytes. judged_never (constants_of bytes) constants_refusal _ (λ fault line e. cc)
    (λ tables film_bytes. judged_never (film_of film_bytes) film_refusal _ (λ fault line e. cc) (λ links line e. cc))
command_never (play constants film script counts) = λ bytes. judged_never (constants_of bytes) constants_refusal _ (λ fault line e. cc)
    (λ tables film_bytes. judged_never (film_of film_bytes) film_refusal _ (λ fault line e. cc)
    (λ links script_bytes. judged_never (script_of script_bytes) script_refusal _ (λ fault line e. cc) (λ lanes line e. cc)))
command_never (trial number counts) = λ line e. cc

usage : (command : Option Command) (shelf : ShelfRun) (out notes : SinkRun) (status : Status) → Outcome (course_of command) shelf out notes status → status ≡ statuses.Usage → command ≡ None
usage None shelf out notes status o e = refl
usage (Some command) shelf out notes status o e =
    let refused = subst (λ (s : Status). Outcome (course_of (Some command)) shelf out notes s) e o in
    absurd (never (course_of (Some command)) shelf refused.0 (command_never command) refused.1)

pub runs : (command : Option Command) (shelf : ShelfRun) (out notes : SinkRun) (status : Status) → Outcome (course_of command) shelf out notes status → Runs command shelf out notes status
runs command shelf out notes status o = record {
  outcome = o;
  completes = complete (course_of command) shelf out notes status o;
  usage = usage command shelf out notes status o;
}

-- a trial reads no file, so that its outcome is that over any run of a shelf
pub runs_trial : (number : ℕ) (counts : Counts) (shelf : ShelfRun) (out notes : SinkRun) (status : Status) → ((run : ShelfRun) → Outcome (course_of (Some (trial number counts))) run out notes status) → Runs (Some (trial number counts)) shelf out notes status
runs_trial number counts shelf out notes status o = runs (Some (trial number counts)) shelf out notes status (o shelf)
