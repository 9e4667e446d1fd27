use Rattle.std.proofs.Common.{sym, arith}
use Rattle.std.proofs.lemmas.Result.{err_from_is_err_and}
use Rattle.model_line.proofs.BlockPackets.{links_behind}
use Rattle.model_film.proofs.SpanHalves.{spans_fit_halves}
use Rattle.film_dump.specs.declared.fault.DumpFault.TheVariants as faults
use Rattle.film_dump.proofs.LineSteps.{broke_at_start, reached_start, reached_span, reached_gap, span_of, span_broke, came_to_line, last_ok, last_broke, fault_known}
use Rattle.film_dump.proofs.line.dump.Goals.{in-Span+in_ok-write_span, in_default}
use Rattle.film_dump.proofs.line.dump.Goals as goal

pub returns-in_err-waiting-clause-memory : goal.returns-in_err-waiting-clause-memory
returns-in_err-waiting-clause-memory g c = λ e. broke_at_start _ _

pub loop-item-init : goal.loop-item-init
loop-item-init g c = record {
  reached = rw (c.in_ok-waiting.ensures.items, c.items-items.ensures.value, c.index.ensures.value) (reached_start c.args.reel.now.constants c.args.reel.now.film.links c.args.reel.now.film.index.items (g.K.Sink.written c.args.sink.now) c.requires.links c.requires.index.origins);
  is_kept = tt;
  later = omega arith;
}

pub write_span-requires-clause-blocks : goal.write_span-requires-clause-blocks
write_span-requires-clause-blocks g c =
    let fit = spans_fit_halves c.args.reel.now.constants c.args.reel.now.film.links c.args.reel.now.film.index c.requires.tables c.requires.links c.requires.index in
    let item = rw (c.items-items.ensures.value, c.index.ensures.value) at c.in-Span.is in
    let lt = rw (c.items-items.ensures.value, c.index.ensures.value) at c.loop-item-test.true in
    let is = span_of c.args.reel.now.constants c.args.reel.now.film.links c.args.reel.now.film.index.items (g.K.Sink.written c.args.sink.now) _ c.loop-item.item-index _ c.in-Span.span fit c.requires.index.frames c.requires.index.within lt item in
    omega (arith, is.block, c.requires.index.count, links_behind 0 0 c.args.reel.now.film.links)

pub write_span-requires-clause-fits : goal.write_span-requires-clause-fits
write_span-requires-clause-fits g c =
    let fit = spans_fit_halves c.args.reel.now.constants c.args.reel.now.film.links c.args.reel.now.film.index c.requires.tables c.requires.links c.requires.index in
    let item = rw (c.items-items.ensures.value, c.index.ensures.value) at c.in-Span.is in
    let lt = rw (c.items-items.ensures.value, c.index.ensures.value) at c.loop-item-test.true in
    let is = span_of c.args.reel.now.constants c.args.reel.now.film.links c.args.reel.now.film.index.items (g.K.Sink.written c.args.sink.now) _ c.loop-item.item-index _ c.in-Span.span fit c.requires.index.frames c.requires.index.within lt item in
    is.fits

pub returns-in_err-write_span-clause-part : goal.returns-in_err-write_span-clause-part
returns-in_err-write_span-clause-part g c = λ e.
    let fit = spans_fit_halves c.args.reel.now.constants c.args.reel.now.film.links c.args.reel.now.film.index c.requires.tables c.requires.links c.requires.index in
    let item = rw (c.items-items.ensures.value, c.index.ensures.value) at c.in-Span.is in
    let lt = rw (c.items-items.ensures.value, c.index.ensures.value) at c.loop-item-test.true in
    let is = span_of c.args.reel.now.constants c.args.reel.now.film.links c.args.reel.now.film.index.items (g.K.Sink.written c.args.sink.now) _ c.loop-item.item-index _ c.in-Span.span fit c.requires.index.frames c.requires.index.within lt item in
    let p = err_from_is_err_and c.from_residual-in_err-write_span.result c.from_residual-in_err-write_span.ensures.1 in
    let fault = fault_known _ p.0 faults.Failed p.1 e in
    span_broke c.args.reel.now.constants c.args.reel.now.film.links c.items-items.result.now (g.K.Sink.written c.args.sink.now) faults.Failed _ _ _ c.loop-item.item-index _ c.in-Span.span is.fits c.loop-item-test.true c.in-Span.is c.loop-item.invariant.reached
    (rw (sym p.2, fault) at c.in_err-write_span.ensures.step)

pub returns-in_err-write_span-clause-memory : goal.returns-in_err-write_span-clause-memory
returns-in_err-write_span-clause-memory g c = λ e.
    let fit = spans_fit_halves c.args.reel.now.constants c.args.reel.now.film.links c.args.reel.now.film.index c.requires.tables c.requires.links c.requires.index in
    let item = rw (c.items-items.ensures.value, c.index.ensures.value) at c.in-Span.is in
    let lt = rw (c.items-items.ensures.value, c.index.ensures.value) at c.loop-item-test.true in
    let is = span_of c.args.reel.now.constants c.args.reel.now.film.links c.args.reel.now.film.index.items (g.K.Sink.written c.args.sink.now) _ c.loop-item.item-index _ c.in-Span.span fit c.requires.index.frames c.requires.index.within lt item in
    let p = err_from_is_err_and c.from_residual-in_err-write_span.result c.from_residual-in_err-write_span.ensures.1 in
    let fault = fault_known _ p.0 faults.Memory p.1 e in
    span_broke c.args.reel.now.constants c.args.reel.now.film.links c.items-items.result.now (g.K.Sink.written c.args.sink.now) faults.Memory _ _ _ c.loop-item.item-index _ c.in-Span.span is.fits c.loop-item-test.true c.in-Span.is c.loop-item.invariant.reached
    (rw (sym p.2, fault) at c.in_err-write_span.ensures.step)

pub loop-item-preserved : goal.loop-item-preserved
loop-item-preserved g c =
    let tables = c.args.reel.now.constants in
    let links = c.args.reel.now.film.links in
    let lt = rw (c.items-items.ensures.value, c.index.ensures.value) at c.loop-item-test.true in
    let fit = spans_fit_halves tables links c.args.reel.now.film.index c.requires.tables c.requires.links c.requires.index in
    elim c.match-item.branch [
      | in-Span+in_ok-write_span w ↦
          let item = rw (c.items-items.ensures.value, c.index.ensures.value) at w.in-Span.is in
          let is = span_of tables links c.args.reel.now.film.index.items (g.K.Sink.written c.args.sink.now) _ c.loop-item.item-index _ w.in-Span.span fit c.requires.index.frames c.requires.index.within lt item in
          record {
            reached = rw (w.sink-is, w.waiting-is) (reached_span tables links c.items-items.result.now (g.K.Sink.written c.args.sink.now) _ _ _ _ c.loop-item.item-index _ w.in-Span.span is.fits c.loop-item-test.true w.in-Span.is c.loop-item.invariant.reached w.in_ok-write_span.ensures.step);
            is_kept = rw w.kept-is w.in_ok-write_span.ensures.kept;
            later = rw w.sink-is (omega (arith, c.loop-item.invariant.later, w.in_ok-write_span.ensures.later));
          }
      | in_default w ↦ record {
        reached = rw (w.sink-is, w.waiting-is) (reached_gap tables links c.items-items.result.now (g.K.Sink.written c.args.sink.now) _ _ c.loop-item.item-index w.in_default.field-0 _ w.in_default.field-1 c.loop-item-test.true w.in_default.is c.loop-item.invariant.reached);
        is_kept = rw w.kept-is c.loop-item.invariant.is_kept;
        later = rw w.sink-is c.loop-item.invariant.later;
      }
    ]

pub returns-clause-ok : goal.returns-clause-ok
returns-clause-ok g c =
    last_ok _ _ _ _ _ _ _ c.put_waiting.ensures.step c.put_waiting.ensures.none
    (came_to_line c.args.reel.now.constants c.args.reel.now.film.links c.items-items.result.now (g.K.Sink.written c.args.sink.now) _ _ c.loop-item.item-index (omega (arith, c.loop-item-test.false)) c.loop-item.invariant.reached)

pub returns-clause-part : goal.returns-clause-part
returns-clause-part g c = λ e.
    last_broke _ faults.Failed _ _ _ _ _ _ c.put_waiting.ensures.step
    (came_to_line c.args.reel.now.constants c.args.reel.now.film.links c.items-items.result.now (g.K.Sink.written c.args.sink.now) _ _ c.loop-item.item-index (omega (arith, c.loop-item-test.false)) c.loop-item.invariant.reached) e

pub returns-clause-memory : goal.returns-clause-memory
returns-clause-memory g c = λ e.
    last_broke _ faults.Memory _ _ _ _ _ _ c.put_waiting.ensures.step
    (came_to_line c.args.reel.now.constants c.args.reel.now.film.links c.items-items.result.now (g.K.Sink.written c.args.sink.now) _ _ c.loop-item.item-index (omega (arith, c.loop-item-test.false)) c.loop-item.invariant.reached) e
