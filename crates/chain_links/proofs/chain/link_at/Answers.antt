use Rattle.std.proofs.Common.{◌≡◌, ◌-◌, true, List, None, Some, length, refl, take, drop, ap, sym, ◌∙◌, arith}
use Rattle.std.proofs.lemmas.List.{take_rest}
use Rattle.model_ogg.specs.declared.page.PageRef.{PageRef}
use Rattle.model_ogg.specs.Links.{up_to_link, played}
use Rattle.chain_links.proofs.LinkSteps.{link-there, link-front, link-within, link_with, link_without}
use Rattle.chain_links.proofs.chain.link_at.Goals as goal

pub slice_bounds-link-end : goal.slice_bounds-link-end
slice_bounds-link-end c =
    let pages = c.args.pages.now in
    let rest = take (length pages - c.args.first) (drop c.args.first pages) in
    let whole = take_rest pages c.args.first in
    let front = link-front pages rest c.args.first c.next_link.result whole c.next_link.ensures in
    c.next_link.ensures ∙ ap (λ (ps : List PageRef). length (up_to_link true ps)) whole ∙ sym (ap length front)

pub returns-in_default-clause-value : goal.returns-in_default-clause-value
returns-in_default-clause-value c =
    let pages = c.args.pages.now in
    let rest = take (length pages - c.args.first) (drop c.args.first pages) in
    let front = link-front pages rest c.args.first c.next_link.result (take_rest pages c.args.first) c.next_link.ensures in
    let none : played c.args.bytes.now (take c.next_link.result rest) ≡ None = cc (c.played.ensures, c.in_default.is) in
    sym (link_without c.args.bytes.now pages (take c.next_link.result rest) c.args.number c.args.first front c.if-number-ge-MOST_LINKS.false none)

pub returns-clause-value : goal.returns-clause-value
returns-clause-value c =
    let pages = c.args.pages.now in
    let rest = take (length pages - c.args.first) (drop c.args.first pages) in
    let front = link-front pages rest c.args.first c.next_link.result (take_rest pages c.args.first) c.next_link.ensures in
    let some : played c.args.bytes.now (take c.next_link.result rest) ≡ Some c.in-Some.serial = cc (c.played.ensures, c.in-Some.is) in
    sym (link_with c.args.bytes.now pages (take c.next_link.result rest) c.args.number c.args.first c.in-Some.serial front c.if-number-ge-MOST_LINKS.false some)

pub returns-clause-end : goal.returns-clause-end
returns-clause-end c =
    let pages = c.args.pages.now in
    let rest = take (length pages - c.args.first) (drop c.args.first pages) in
    let front = link-front pages rest c.args.first c.next_link.result (take_rest pages c.args.first) c.next_link.ensures in
    rw front refl

pub returns-clause-within : goal.returns-clause-within
returns-clause-within c =
    let pages = c.args.pages.now in
    let rest = take (length pages - c.args.first) (drop c.args.first pages) in
    let front = link-front pages rest c.args.first c.next_link.result (take_rest pages c.args.first) c.next_link.ensures in
    let there = link-there pages c.args.first c.requires.begun in
    let within = link-within pages c.args.first c.requires.begun in
    rw front (omega arith, within)
