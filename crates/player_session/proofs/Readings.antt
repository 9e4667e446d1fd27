-- How reading files goes on along a course.
use Rattle.std.proofs.Common.{◌≡◌, ℕ, ◌≤◌, List, length, Result, Ok, Err, refl, subst, ◌∙◌, inl, inr, arith}
use Rattle.vf_outside.specs.Told.{Told, MayGive, MayBeTooLong}
use Rattle.vf_outside.specs.Faults.{one_more, Rose}
use Rattle.model_player.specs.Courses.{Duty, Course, reads, judged}
use Rattle.model_player.specs.Outcome.{ShelfRun, shelf_run, unread, too_long, MayComeTo}
use Rattle.player_session.specs.declared.stops.Stop.{Stop}
use Rattle.player_session.specs.Steps.{LiesWithin, StopsBy}
use Rattle.player_session.proofs.Outcomes.{StopsBy-weaker}

-- ---- runs of shelves

one_more-mono : (a b : ℕ) → a ≤ b → one_more a ≤ one_more b
one_more-mono a b le = grind (arith, le)

-- a count that rose within a run rose in the run
pub rose_within : (run call : ShelfRun) (name : List ℕ) → LiesWithin run call → Rose (call.faults_before name) (call.faults_after name) → Rose (run.faults_before name) (run.faults_after name)
rose_within run call name is rose =
    let less = one_more-mono (run.faults_before name) (call.faults_before name) (is.before name) in
    let more : call.faults_after name ≤ run.faults_after name = is.after name in
    omega arith

module _ {S : Type 0} (told : S → List ℕ → Told) (faults : S → List ℕ → ℕ) (run : ShelfRun) (old mid new : S) (is : LiesWithin run (shelf_run told faults old new)) where
  -- a call whose shelf went on
  pub first_within : ((name : List ℕ) → faults mid name ≤ faults new name) → LiesWithin run (shelf_run told faults old mid)
  first_within later = record {
    told = is.told;
    before = is.before;
    after = λ name. (let more : faults new name ≤ run.faults_after name = is.after name in let less : faults mid name ≤ faults new name = later name in omega arith);
  }

  -- a call behind another
  pub second_within : ((name : List ℕ) → faults old name ≤ faults mid name) → ((name : List ℕ) → told mid name ≡ told old name) → LiesWithin run (shelf_run told faults mid new)
  second_within later same = record {
    told = λ name. same name ∙ is.told name;
    before = λ name. (let less : run.faults_before name ≤ faults old name = is.before name in let more : faults old name ≤ faults mid name = later name in omega arith);
    after = is.after;
  }

-- ---- judgements

pub judged_ok : {A E : Type 0} (r : Result A E) (refusal : E → Duty) (next : A → Course) (run : ShelfRun) (duty : Duty) (value : A) → r ≡ Ok value → MayComeTo (next value) run duty → MayComeTo (judged r refusal next) run duty
judged_ok r refusal next run duty value e d = rw e d

pub judged_err : {A E : Type 0} (r : Result A E) (refusal : E → Duty) (next : A → Course) (run : ShelfRun) (duty : Duty) (fault : E) → r ≡ Err fault → duty ≡ refusal fault → MayComeTo (judged r refusal next) run duty
judged_err r refusal next run duty fault e d = rw e d

-- what a refusal stops by one that is due
pub judged_stop : {A E : Type 0} (r : Result A E) (refusal : E → Duty) (next : A → Course) (course : Course) (run : ShelfRun) (fault : E) (stop : Stop) → r ≡ Err fault → StopsBy (λ duty. duty ≡ refusal fault) stop
    → ((duty : Duty) → MayComeTo (judged r refusal next) run duty → MayComeTo course run duty) → StopsBy (MayComeTo course run) stop
judged_stop r refusal next course run fault stop e s on =
    StopsBy-weaker (λ duty. duty ≡ refusal fault) (MayComeTo course run) (λ duty is. on duty (judged_err r refusal next run duty fault e is)) stop s

-- ---- fetches

module _ (run call : ShelfRun) (is : LiesWithin run call) (name : List ℕ) (limit : ℕ) (next : List ℕ → Course) where
  pub fetch_ok : (bytes : List ℕ) → MayGive (call.told name) bytes → length bytes ≤ limit → (duty : Duty) → MayComeTo (next bytes) run duty → MayComeTo (reads name limit next) run duty
  fetch_ok bytes given short duty d = inr (bytes, record { given = subst (λ (t : Told). MayGive t bytes) (is.told name) given; short = short }, d)

  pub fetch_failed : (stop : Stop) → Rose (call.faults_before name) (call.faults_after name) → StopsBy (λ duty. duty ≡ unread name) stop → StopsBy (MayComeTo (reads name limit next) run) stop
  fetch_failed stop rose s = StopsBy-weaker (λ duty. duty ≡ unread name) (MayComeTo (reads name limit next) run) (λ duty e. inl (inl (e, rose_within run call name is rose))) stop s

  pub fetch_too_long : (stop : Stop) → MayBeTooLong (call.told name) limit → StopsBy (λ duty. duty ≡ too_long name limit) stop → StopsBy (MayComeTo (reads name limit next) run) stop
  fetch_too_long stop long s =
      StopsBy-weaker (λ duty. duty ≡ too_long name limit) (MayComeTo (reads name limit next) run)
      (λ duty e. inl (inr (e, subst (λ (t : Told). MayBeTooLong t limit) (is.told name) long))) stop s

-- a run lies within itself
pub lies_self : (run : ShelfRun) → LiesWithin run run
lies_self run = record { told = λ name. refl; before = λ name. omega arith; after = λ name. omega arith }
