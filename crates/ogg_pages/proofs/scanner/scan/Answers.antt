use Rattle.std.proofs.Common.{arith}
use Rattle.std.proofs.lemmas.List.Elements.{All-from_recursion}
use Rattle.model_ogg.specs.Pages.{IsPageOf, pages}
use Rattle.model_ogg.proofs.StandingPages.{pages_are_pages}
use Rattle.ogg_pages.proofs.Scans.{page_taken, pages_taken}
use Rattle.ogg_pages.proofs.scanner.scan.Goals as goal

pub loop-page-preserved : goal.loop-page-preserved
loop-page-preserved c =
    let is = c.loop-page.invariant in
    let within = c.in-Some.ensures.page.page.within in
    record {
      kept = c.in-Some.ensures.kept;
      within = omega (arith, c.len.ensures);
      found = rw (c.in_ok-push.ensures.items, c.len.ensures) (page_taken c.args.bytes.now c.loop-page.place c.in-Some.page c.loop-page.found.items (pages c.args.bytes.now 0) c.in-Some.ensures.page is.found);
    }

pub returns-clause-value : goal.returns-clause-value
returns-clause-value c =
    let is = c.loop-page.invariant in
    pages_taken c.args.bytes.now c.loop-page.place c.loop-page.found.items (pages c.args.bytes.now 0) is.within c.in_default.ensures.page is.found

pub returns-clause-each : goal.returns-clause-each
returns-clause-each c =
    let is = c.loop-page.invariant in
    let all = pages_taken c.args.bytes.now c.loop-page.place c.loop-page.found.items (pages c.args.bytes.now 0) is.within c.in_default.ensures.page is.found in
    rw all (All-from_recursion (IsPageOf c.args.bytes.now) _ (pages_are_pages c.args.bytes.now))
