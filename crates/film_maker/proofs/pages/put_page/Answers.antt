use Rattle.std.proofs.Common.{length, take, sym, ap, ◌∙◌}
use Rattle.std.specs.List.{sum}
use Rattle.film_maker.proofs.Paging.{sum_of_laces}
use Rattle.film_maker.proofs.pages.put_page.Goals as goal

pub page_bytes-requires-clause-body : goal.page_bytes-requires-clause-body
page_bytes-requires-clause-body c =
    let l = c.loop-packet in
    ap sum (c.deref.ensures.value ∙ l.invariant.laces) ∙ sum_of_laces (take l.packet-index c.args.packets.now)
    ∙ sym (ap length (c.deref-2.ensures.value ∙ l.invariant.body))
