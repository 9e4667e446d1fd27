use Rattle.std.proofs.Common.{ap, Err}
use Rattle.std.proofs.lemmas.Result.{err_from_is_err_and}
use Rattle.film_dump.proofs.Midst.{goes_on_put, put_broke}
use Rattle.film_dump.proofs.puts.put_waiting.Goals as goal

pub returns-in_err-put-clause-step : goal.returns-in_err-put-clause-step
returns-in_err-put-clause-step g c =
    let p = err_from_is_err_and c.from_residual.result c.from_residual.ensures.1 in
    let part = rw c.deref.ensures.value at c.in_err-put.ensures.part in
    rw (p.1, p.2) (put_broke c.in_err-put.field-0.0 _ _ c.args.waiting.now.items (λ e. part (ap Err e)) (λ e. c.in_err-put.ensures.memory (ap Err e)))

pub returns-clause-step : goal.returns-clause-step
returns-clause-step g c = goes_on_put _ _ _ _ (rw c.deref.ensures.value at c.in_ok-put.ensures.ok) c.clear.ensures.items
