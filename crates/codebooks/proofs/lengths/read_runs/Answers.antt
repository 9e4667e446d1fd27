use Rattle.std.proofs.Common.{◌∙◌, ◌++◌, replicate, Some, ◌≡◌, ◌-◌, ◌≤◌, ◌<◌, arith, length-append}
use Rattle.std.proofs.lemmas.List.{length-replicate}
use Rattle.std.proofs.lemmas.Result.{err_from_is_err_and}
use Rattle.model_setup.specs.BookReading.{runs_at}
use Rattle.model_setup.proofs.Runs.{runs_go_on, run_too_long, run_fails, runs_above, runs_end}
use Rattle.codebooks.proofs.LengthLists.{runs_small, same_ok}
use Rattle.codebooks.proofs.lengths.read_runs.Goals as goal

pub returns-then-len-gt32-clause-read : goal.returns-then-len-gt32-clause-read
returns-then-len-gt32-clause-read c =
    let l = c.loop-remain in
    λ other. runs_above l.lengths.items l.len l.remain l.bits.left (runs_at (33 - c.args.first) c.args.first c.args.entries c.args.bits.now.left) (omega arith) l.invariant.read (omega arith)

pub returns-in_err-run-clause-read : goal.returns-in_err-run-clause-read
returns-in_err-run-clause-read c =
    let p = err_from_is_err_and c.from_residual.result c.from_residual.ensures.1 in
    let l = c.loop-remain in
    let total = runs_at (33 - c.args.first) c.args.first c.args.entries c.args.bits.now.left in
    let short : l.len ≤ 32 = omega arith in
    let some : 0 < l.remain = omega arith in
    rw (p.1, p.2) (λ other. run_fails l.lengths.items l.len l.remain l.bits.left total some l.invariant.read c.in_err-run.field-0.0 short (c.in_err-run.ensures.field other))

pub returns-then-run-remain-clause-read : goal.returns-then-run-remain-clause-read
returns-then-run-remain-clause-read c =
    let l = c.loop-remain in
    λ other. run_too_long l.lengths.items l.len l.remain l.bits.left (runs_at (33 - c.args.first) c.args.first c.args.entries c.args.bits.now.left) (omega arith) l.invariant.read c.in_ok-run.run' c.read_run.new.bits.left (omega arith) c.in_ok-run.ensures.field (omega arith)

pub loop-remain-preserved : goal.loop-remain-preserved
loop-remain-preserved c =
    let l = c.loop-remain in
    let total = runs_at (33 - c.args.first) c.args.first c.args.entries c.args.bits.now.left in
    let short : l.len ≤ 32 = omega arith in
    let some : 0 < l.remain = omega arith in
    let fits : c.in_ok-run.run' ≤ l.remain = omega arith in
    let e = runs_go_on l.lengths.items l.len l.remain l.bits.left total some l.invariant.read c.in_ok-run.run' c.read_run.new.bits.left short c.in_ok-run.ensures.field fits in
    let n = c.loop-remain.invariant.count in
    let same : c.push_run.new.lengths.items ≡ l.lengths.items ++ replicate c.in_ok-run.run' (Some l.len) = same_ok _ _ c.in_ok-push_run.ensures in
    rw same (record {
      bytes = c.in_ok-run.ensures.bytes ∙ l.invariant.bytes;
      read = e;
      some = omega arith;
      len = omega arith;
      count = simp (length-append, length-replicate) (omega arith);
      small = runs_small l.lengths.items c.in_ok-run.run' l.len l.invariant.small (l.invariant.some, short);
    })

pub returns-clause-read : goal.returns-clause-read
returns-clause-read c =
    let l = c.loop-remain in
    let none : l.remain ≡ 0 = omega arith in
    runs_end l.lengths.items (33 - l.len) l.len l.remain l.bits.left (runs_at (33 - c.args.first) c.args.first c.args.entries c.args.bits.now.left) none l.invariant.read
