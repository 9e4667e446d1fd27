use Rattle.std.proofs.Common.{◌∙◌, length, sym, arith}
use Rattle.std.proofs.lemmas.List.{take_rest}
use Rattle.std.proofs.lemmas.Result.{err_from_is_err_and}
use Rattle.ogg_packets.proofs.PageReads.{page_read, added, loss_lies, loss_too_many, rest_too_many}
use Rattle.ogg_packets.proofs.page.read_page.Goals as goal

pub join_segments-requires : goal.join_segments-requires
join_segments-requires c =
    let laces = c.laces-laces.result.now in
    let front = c.skipped-front.result in
    let within = rw (← c.laces-laces.ensures.value) at c.segment_place-place.ensures.within in
    rw (take_rest laces front) (omega (arith, within, c.requires.few))

pub returns-clause-entries : goal.returns-clause-entries
returns-clause-entries c =
    let bytes = c.args.bytes.now in
    let laces = c.laces-laces.result.now in
    let front = c.skipped-front.result in
    let place = c.segment_place-place.result in
    let read = page_read bytes c.args.before.expected c.args.before.pending c.kept-kept.result c.args.page.now laces front place c.loses-lost.result c.forgets.result c.has_orphan.result c.is_empty-has_segments.result
    c.laces-laces.ensures.value c.is_empty-has_segments.ensures (rw c.is_some.ensures at c.loses-lost.ensures) c.forgets.ensures c.kept-kept.ensures (rw c.is_some-2.ensures at c.has_orphan.ensures) c.skipped-front.ensures.after
    (rw c.laces-laces.ensures.value c.segment_place-place.ensures.value) in
    let rest = take_rest laces front in
    let now = rw (rest, c.mark_of.ensures) at c.in_ok-left.ensures.entries bytes in
    added bytes c.args.entries.now.found.items c.add_loss.new.self.found.items c.join_segments.new.entries.found.items _ _ _ c.in_ok-add_loss.ensures.ok now read.0

pub returns-clause-pending : goal.returns-clause-pending
returns-clause-pending c =
    let bytes = c.args.bytes.now in
    let laces = c.laces-laces.result.now in
    let front = c.skipped-front.result in
    let place = c.segment_place-place.result in
    let read = page_read bytes c.args.before.expected c.args.before.pending c.kept-kept.result c.args.page.now laces front place c.loses-lost.result c.forgets.result c.has_orphan.result c.is_empty-has_segments.result
    c.laces-laces.ensures.value c.is_empty-has_segments.ensures (rw c.is_some.ensures at c.loses-lost.ensures) c.forgets.ensures c.kept-kept.ensures (rw c.is_some-2.ensures at c.has_orphan.ensures) c.skipped-front.ensures.after
    (rw c.laces-laces.ensures.value c.segment_place-place.ensures.value) in
    let rest = take_rest laces front in
    rw rest at c.in_ok-left.ensures.pending bytes ∙ sym read.1

pub returns-clause-lies : goal.returns-clause-lies
returns-clause-lies c = λ lie.
    let rest = take_rest c.laces-laces.result.now c.skipped-front.result in
    let fits = rw (← c.laces-laces.ensures.value) at c.segment_place-place.ensures.within in
    let here = loss_lies (length c.args.bytes.now) c.args.entries.now.found.items c.add_loss.new.self.found.items c.args.before.pending c.kept-kept.result _ _ c.in_ok-add_loss.ensures.ok c.kept-kept.ensures lie in
    (rw rest at c.in_ok-left.ensures.lies) (length c.args.bytes.now) fits here

pub returns-in_err-add_loss-clause-too_many : goal.returns-in_err-add_loss-clause-too_many
returns-in_err-add_loss-clause-too_many c = λ e.
    let p = err_from_is_err_and c.from_residual.result c.from_residual.ensures.1 in
    let many = c.in_err-add_loss.ensures.too_many (cc) in
    loss_too_many c.args.bytes.now c.args.before.expected c.args.before.pending c.args.page.now c.laces-laces.result.now c.loses-lost.result c.is_empty-has_segments.result c.args.entries.now.found.items c.args.entries.now.limit
    c.laces-laces.ensures.value c.is_empty-has_segments.ensures (rw c.is_some.ensures at c.loses-lost.ensures) many

pub returns-in_err-left-clause-too_many : goal.returns-in_err-left-clause-too_many
returns-in_err-left-clause-too_many c = λ e.
    let p = err_from_is_err_and c.from_residual-in_err-left.result c.from_residual-in_err-left.ensures.1 in
    let bytes = c.args.bytes.now in
    let laces = c.laces-laces.result.now in
    let front = c.skipped-front.result in
    let place = c.segment_place-place.result in
    let read = page_read bytes c.args.before.expected c.args.before.pending c.kept-kept.result c.args.page.now laces front place c.loses-lost.result c.forgets.result c.has_orphan.result c.is_empty-has_segments.result
    c.laces-laces.ensures.value c.is_empty-has_segments.ensures (rw c.is_some.ensures at c.loses-lost.ensures) c.forgets.ensures c.kept-kept.ensures (rw c.is_some-2.ensures at c.has_orphan.ensures) c.skipped-front.ensures.after
    (rw c.laces-laces.ensures.value c.segment_place-place.ensures.value) in
    let rest = take_rest laces front in
    let many = rw (rest, c.mark_of.ensures, c.in_ok-add_loss.ensures.limit) at c.in_err-left.ensures.too_many (cc) bytes in
    rest_too_many bytes c.args.entries.now.found.items c.add_loss.new.self.found.items _ _ _ c.args.entries.now.limit c.in_ok-add_loss.ensures.ok read.0 many
