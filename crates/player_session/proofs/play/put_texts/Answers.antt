use Rattle.std.proofs.Common.{ap, Err, arith}
use Rattle.player_session.proofs.Reports.{put_next, put_front, put_broke}
use Rattle.player_session.proofs.play.put_texts.Goals as goal

pub returns-in_err-put-clause-part : goal.returns-in_err-put-clause-part
returns-in_err-put-clause-part g c =
    let part = rw c.items.ensures at c.in_err-put.ensures.part in
    put_broke c.args.texts.now _ _ _ c.loop-text.text-index _ c.in_err-put.field-0.0 (omega (arith, c.loop-text-test.true)) c.text-item.is c.loop-text.invariant.0 (λ e. part (ap Err e)) (λ e. c.in_err-put.ensures.memory (ap Err e))

pub loop-text-preserved : goal.loop-text-preserved
loop-text-preserved g c =
    let whole = rw c.items.ensures at c.in_ok-put.ensures.ok in
    (put_next c.args.texts.now _ _ _ c.loop-text.text-index _ (omega (arith, c.loop-text-test.true)) c.text-item.is c.loop-text.invariant.0 whole, omega (arith, c.loop-text.invariant.1, c.in_ok-put.ensures.later))

pub returns-clause-part : goal.returns-clause-part
returns-clause-part g c = put_front _ _ _ c.loop-text.text-index c.loop-text.invariant.0
