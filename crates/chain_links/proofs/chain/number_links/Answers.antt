use Rattle.std.proofs.Common.{◌≡◌, false, length, sym, arith, length-append, ◌∷◌, []}
use Rattle.std.proofs.lemmas.Result.{err_from_is_err_and}
use Rattle.std.proofs.lemmas.List.Elements.{All-push}
use Rattle.model_ogg.specs.Links.{LiesAmong}
use Rattle.model_ogg.proofs.LinkLaws.{up_to_link-behind, up_to_link-within}
use Rattle.chain_links.proofs.LinkSteps.{links_begin, link_found, next_begins, link_refused, links_end}
use Rattle.chain_links.proofs.chain.number_links.Goals as goal

pub loop-first-init : goal.loop-first-init
loop-first-init c =
    let pages = c.args.pages.now in
    record {
      value = links_begin c.args.bytes.now pages c.new-links.result.items c.next_link-first.result c.new-links.ensures.items c.next_link-first.ensures;
      begins = rw c.next_link-first.ensures (up_to_link-behind false pages);
      within = rw c.next_link-first.ensures (up_to_link-within false pages);
      few = rw c.new-links.ensures.items (omega arith);
      lie = rw c.new-links.ensures.items (λ k d lt. absurd (omega (arith, lt)));
    }

pub returns-in_err-link-clause-answers : goal.returns-in_err-link-clause-answers
returns-in_err-link-clause-answers c =
    let p = err_from_is_err_and c.from_residual.result c.from_residual.ensures.1 in
    let number : c.len.result ≡ length c.loop-first.links.items = omega (arith, c.len.ensures, c.loop-first.links.ok) in
    rw (p.1, p.2) (λ other. link_refused c.args.bytes.now c.args.pages.now c.len.result c.loop-first.first c.loop-first.links.items _ _ c.loop-first-test.true number c.loop-first.invariant.begins (sym c.in_err-link.ensures.value) c.loop-first.invariant.value)

pub loop-first-preserved : goal.loop-first-preserved
loop-first-preserved c =
    let pages = c.args.pages.now in
    let found = c.loop-first.links.items in
    let number : c.len.result ≡ length found = omega (arith, c.len.ensures, c.loop-first.links.ok) in
    record {
      value = link_found c.args.bytes.now pages c.len.result c.loop-first.first c.in_ok-link.link.end found c.push.new.self.items c.in_ok-link.link _
          c.loop-first-test.true number c.in_ok-link.ensures.end c.in_ok-push.ensures.items c.loop-first.invariant.begins (sym c.in_ok-link.ensures.value) c.loop-first.invariant.value;
      begins = next_begins pages c.loop-first.first c.in_ok-link.link.end c.in_ok-link.ensures.end;
      within = c.in_ok-link.ensures.within.1;
      few = rw c.in_ok-push.ensures.items (omega (arith, length-append found (c.in_ok-link.link ∷ []), c.in_ok-link.ensures.few, number));
      lie = rw c.in_ok-push.ensures.items (All-push (LiesAmong (length pages)) found c.in_ok-link.link c.loop-first.invariant.lie c.in_ok-link.ensures.within);
    }

pub returns-clause-answers : goal.returns-clause-answers
returns-clause-answers c = links_end c.args.bytes.now c.args.pages.now c.loop-first.first c.loop-first.links.items _ c.loop-first-test.false c.loop-first.invariant.value
