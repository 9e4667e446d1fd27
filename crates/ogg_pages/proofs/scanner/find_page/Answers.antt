use Rattle.std.proofs.Common.{◌+◌, ◌-◌, length, take, drop, sym, arith}
use Rattle.std.proofs.lemmas.List.{take_rest}
use Rattle.ogg_pages.proofs.Search.{none_left, passed_over, next_there, none_there}
use Rattle.ogg_pages.proofs.scanner.find_page.Goals as goal

pub returns-in-Some-page_at-clause-page : goal.returns-in-Some-page_at-clause-page
returns-in-Some-page_at-clause-page c =
    let bytes = c.args.bytes.now in
    let place = c.loop-ahead.place in
    let is = c.loop-ahead.invariant in
    let over = passed_over bytes (take (length bytes - place) (drop place bytes)) c.args.finder.now c.args.from place c.in-Some.ahead is.none is.within (take_rest bytes place) c.requires.finder c.in-Some.ensures in
    next_there bytes c.args.from (place + c.in-Some.ahead) c.in-Some-page_at.page (omega arith) over c.in-Some-page_at.ensures.page

pub loop-ahead-preserved : goal.loop-ahead-preserved
loop-ahead-preserved c =
    let bytes = c.args.bytes.now in
    let place = c.loop-ahead.place in
    let is = c.loop-ahead.invariant in
    let over = passed_over bytes (take (length bytes - place) (drop place bytes)) c.args.finder.now c.args.from place c.in-Some.ahead is.none is.within (take_rest bytes place) c.requires.finder c.in-Some.ensures in
    record {
      after = omega arith;
      within = omega arith;
      none = none_there bytes c.args.from (place + c.in-Some.ahead) over (sym c.in_default-page_at.ensures.page);
      kept = c.page_at.ensures.kept;
    }

pub returns-clause-page : goal.returns-clause-page
returns-clause-page c =
    let bytes = c.args.bytes.now in
    let place = c.loop-ahead.place in
    none_left bytes (take (length bytes - place) (drop place bytes)) c.args.finder.now c.args.from place c.loop-ahead.invariant.none (take_rest bytes place) c.requires.finder c.in_default.ensures
