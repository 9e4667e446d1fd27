use Rattle.std.proofs.lemmas.Result.{err_from_is_err_and}
use Rattle.model_script.specs.Scripts.{script_of}
use Rattle.model_player.specs.Courses.{judged, script_refusal, reads_script}
use Rattle.player_session.proofs.Readings.{judged_ok, judged_stop}
use Rattle.player_session.proofs.files.read_script.Goals as goal

pub returns-in_err-bytes-clause-course : goal.returns-in_err-bytes-clause-course
returns-in_err-bytes-clause-course g c =
    let p = err_from_is_err_and c.from_residual.result c.from_residual.ensures.1 in
    rw (p.1, p.2) (λ run is next. c.in_err-bytes.ensures.course run is (λ bytes. judged (script_of bytes) script_refusal next))

pub returns-in-Ok-clause-course : goal.returns-in-Ok-clause-course
returns-in-Ok-clause-course g c = λ run is next duty d.
    let read = rw c.deref.ensures.value at c.in-Ok.ensures in
    c.in_ok-bytes.ensures.course run is (λ bytes. judged (script_of bytes) script_refusal next) duty (judged_ok (script_of c.in_ok-bytes.bytes.items) script_refusal next run duty c.in-Ok.script read d)

pub returns : goal.returns
returns g c =
    let read = rw c.deref.ensures.value at c.in-Err.ensures in
    record {
      course = λ run is next.
          judged_stop (script_of c.in_ok-bytes.bytes.items) script_refusal next (reads_script c.args.name.now next) run c.in-Err.fault c.refusal.result (read c.in_default.not-Memory) (c.refusal.ensures _ c.script_fault_line.ensures.line)
          (c.in_ok-bytes.ensures.course run is (λ bytes. judged (script_of bytes) script_refusal next));
      later = c.fetched.ensures.later;
      unchanged = c.fetched.ensures.unchanged;
    }
