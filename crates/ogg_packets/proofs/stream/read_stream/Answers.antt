use Rattle.std.proofs.Common.{◌≡◌, ◌∙◌, refl, arith}
use Rattle.std.proofs.lemmas.Result.{err_from_is_err_and}
use Rattle.model_ogg.specs.Pages.{IsPageOf}
use Rattle.ogg_packets.proofs.StreamSteps.{All-stream_of, first_of, stream_step, stream_too_many, stream_end}
use Rattle.ogg_packets.proofs.stream.read_stream.Goals as goal

pub loop-page-init : goal.loop-page-init
loop-page-init c =
    let pages = c.args.pages.now in
    let it = c.into_iter-page-iterator.result in
    let rest-is : it.rest.now ≡ pages = cc (c.into_iter-page-iterator.ensures.into_iter_gives, c.new-page-items.ensures.pages) in
    let serial-is : it.serial ≡ c.args.serial = cc (c.into_iter-page-iterator.ensures.into_iter_gives, c.new-page-items.ensures.serial) in
    record {
      can = tt;
      finite = tt;
      pages = rw (rest-is, serial-is) (All-stream_of (IsPageOf c.args.bytes.now) c.args.serial pages c.requires.pages);
      limit = refl;
      entries = rw (rest-is, serial-is, c.new-state.ensures.expected, c.new-state.ensures.pending, c.requires.none) refl;
      lies = rw (c.requires.none, c.new-state.ensures.pending) (record { entries = λ k d lt. absurd (omega (arith, lt)); pending = tt });
    }

pub returns-in_err-state-clause-too_many : goal.returns-in_err-state-clause-too_many
returns-in_err-state-clause-too_many c = λ e.
    let p = err_from_is_err_and c.from_residual.result c.from_residual.ensures.1 in
    let many = rw c.loop-page.invariant.limit at c.in_err-state.ensures.too_many (cc) in
    stream_too_many c.args.bytes.now _ _ c.in-Some.page.now c.loop-page.state.expected _ _ _ c.args.entries.now.limit c.in-Some.ensures.steps many c.loop-page.invariant.entries

pub loop-page-preserved : goal.loop-page-preserved
loop-page-preserved c =
    let step = c.in-Some.ensures.steps in
    let split = first_of (IsPageOf c.args.bytes.now) _ _ c.in-Some.page.now step c.loop-page.invariant.pages in
    record {
      can = tt;
      finite = tt;
      pages = split.1;
      limit = c.in_ok-state.ensures.limit ∙ c.loop-page.invariant.limit;
      entries = rw c.in_ok-state.ensures.expected (stream_step c.args.bytes.now _ _ c.in-Some.page.now c.loop-page.state.expected _ _ _ _ _ step c.in_ok-state.ensures.entries c.in_ok-state.ensures.pending c.loop-page.invariant.entries);
      lies = c.in_ok-state.ensures.lies c.loop-page.invariant.lies;
    }

pub returns-clause-entries : goal.returns-clause-entries
returns-clause-entries c = rw c.is_some.ensures (stream_end c.args.bytes.now _ _ c.loop-page.state.pending _ _ _ c.in-None.ensures.steps.0 refl c.loop-page.invariant.entries)
