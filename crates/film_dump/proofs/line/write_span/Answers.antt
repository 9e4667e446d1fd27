use Rattle.std.proofs.Common.{◌∙◌}
use Rattle.std.proofs.lemmas.Result.{err_from_is_err_and}
use Rattle.film_dump.proofs.Midst.{memory_broke}
use Rattle.film_dump.proofs.KeptBlocks.{right_is, left_is}
use Rattle.film_dump.proofs.line.write_span.Goals as goal

pub returns-in_err-first-clause-step : goal.returns-in_err-first-clause-step
returns-in_err-first-clause-step g c =
    let p = err_from_is_err_and c.from_residual.result c.from_residual.ensures.1 in
    rw (p.1, p.2) (memory_broke _ _ _)

pub returns-in_err-right-clause-step : goal.returns-in_err-right-clause-step
returns-in_err-right-clause-step g c =
    let p = err_from_is_err_and c.from_residual-in_err-right.result c.from_residual-in_err-right.ensures.1 in
    rw (p.1, p.2) (memory_broke _ _ _)

pub returns-in_err-second-clause-step : goal.returns-in_err-second-clause-step
returns-in_err-second-clause-step g c =
    let p = err_from_is_err_and c.from_residual-in_err-second.result c.from_residual-in_err-second.ensures.1 in
    rw (p.1, p.2) (memory_broke _ _ _)

pub returns-in_err-left-clause-step : goal.returns-in_err-left-clause-step
returns-in_err-left-clause-step g c =
    let p = err_from_is_err_and c.from_residual-in_err-left.result c.from_residual-in_err-left.ensures.1 in
    rw (p.1, p.2) (memory_broke _ _ _)

pub write_frames-requires : goal.write_frames-requires
write_frames-requires g c =
    let right = c.in_ok-right.ensures ∙ right_is _ _ _ _ c.in_ok-first.ensures.block in
    let left = c.in_ok-left.ensures ∙ left_is _ _ _ _ c.in_ok-second.ensures.block in
    rw (right, left) c.requires.fits

pub returns-in_err-write_frames-clause-step : goal.returns-in_err-write_frames-clause-step
returns-in_err-write_frames-clause-step g c =
    let p = err_from_is_err_and c.from_residual-in_err-write_frames.result c.from_residual-in_err-write_frames.ensures.1 in
    let right = c.in_ok-right.ensures ∙ right_is _ _ _ _ c.in_ok-first.ensures.block in
    let left = c.in_ok-left.ensures ∙ left_is _ _ _ _ c.in_ok-second.ensures.block in
    rw (p.1, p.2) (rw (right, left) at c.in_err-write_frames.ensures.step)

pub returns-clause-step : goal.returns-clause-step
returns-clause-step g c =
    let right = c.in_ok-right.ensures ∙ right_is _ _ _ _ c.in_ok-first.ensures.block in
    let left = c.in_ok-left.ensures ∙ left_is _ _ _ _ c.in_ok-second.ensures.block in
    rw (right, left) at c.in_ok-write_frames.ensures.step
