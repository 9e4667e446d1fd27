use Rattle.std.proofs.Common.{List, length, Ok, refl, sym, ap, ◌∙◌, arith}
use Rattle.std.proofs.lemmas.Result.{err_from_is_err_and}
use Rattle.model_ogg.specs.Entries.{StreamItem, stream_items}
use Rattle.model_line.specs.Acceptance.{link_with}
use Rattle.model_ogg.specs.Links.{played_pages}
use Rattle.ogg_packets.specs.Entries.{items_of}
use Rattle.film_blocks.proofs.Counts.{length-items}
use Rattle.film_blocks.proofs.HeadFacts.{accepted}
use Rattle.film_blocks.proofs.LinkSteps.{more, few, too_many, one_link, one_fault, pages_few}
use Rattle.model_block.specs.declared.sizes.BlockSizes.{BlockSizes}
use Rattle.film_blocks.proofs.ReadSteps.{link_read, rows_behind}
use Rattle.film_blocks.proofs.links.read_link.Goals as goal

pub returns-in-Err-TooMany-clause-link : goal.returns-in-Err-TooMany-clause-link
returns-in-Err-TooMany-clause-link c = λ other.
    let pages = played_pages c.args.pages.now c.args.link.now in
    let items = stream_items c.args.bytes.now pages in
    let refused = rw (c.in-Err-TooMany.field-0-is, c.pages_in-pages.ensures) at c.in-Err-TooMany.ensures.answers in
    too_many c.args.number c.args.left c.args.link.now.serial pages items (more c.args.left items (refused (λ e. cc)))

pub returns-in_err-heads-clause-link : goal.returns-in_err-heads-clause-link
returns-in_err-heads-clause-link c =
    let p = err_from_is_err_and c.from_residual.result c.from_residual.ensures.1 in
    let pages = played_pages c.args.pages.now c.args.link.now in
    let items = stream_items c.args.bytes.now pages in
    let given = rw c.pages_in-pages.ensures at c.in-Ok.ensures.answers in
    let within = few c.args.left items (items_of c.args.bytes.now c.in-Ok.entries.items) given in
    let fault = rw (c.deref.ensures.value, within.same) at c.in_err-heads.ensures.heads in
    rw (p.1, p.2) (λ other. one_fault c.args.number c.args.left c.args.link.now.serial pages items c.in_err-heads.field-0.0 within.few (fault other))

pub returns-clause-link : goal.returns-clause-link
returns-clause-link c =
    let pages = played_pages c.args.pages.now c.args.link.now in
    let items = stream_items c.args.bytes.now pages in
    let given = rw c.pages_in-pages.ensures at c.in-Ok.ensures.answers in
    let within = few c.args.left items (items_of c.args.bytes.now c.in-Ok.entries.items) given in
    let said = rw (c.deref.ensures.value, within.same) at c.in_ok-heads.ensures.heads in
    let counted = c.counts_of-counts.ensures c.args.bytes.now in
    let counts = rw (c.deref-3.ensures.value, within.same, c.pages_in-pages.ensures) at counted in
    one_link c.args.number c.args.left c.args.link.now.serial pages items c.counts_of-counts.result (c.in_ok-heads.heads.ident, c.in_ok-heads.heads.setup) within.few counts said
    ∙ ap (λ (xs : List StreamItem). Ok (link_with c.counts_of-counts.result xs)) (sym within.same)

pub returns-clause-read : goal.returns-clause-read
returns-clause-read c =
    let said = rw c.deref.ensures.value at c.in_ok-heads.ensures.heads in
    let rows = rw c.deref-2.ensures.value at c.in_ok-rows.ensures in
    let fit = c.in_ok-heads.ensures.fit in
    link_read c.args.bytes.now _ c.in_ok-rows.rows c.in_ok-heads.heads.ident c.in_ok-heads.heads.setup c.in-Ok.ensures.within refl
    (accepted c.args.number _ c.in_ok-heads.heads.ident c.in_ok-heads.heads.setup said) fit.playable fit.few fit.setup rows
    (ap (λ (s : BlockSizes). s.short) c.block_sizes.ensures) (ap (λ (s : BlockSizes). s.long) c.block_sizes.ensures) c.in_ok-blocks.ensures

pub returns-clause-count : goal.returns-clause-count
returns-clause-count c =
    let pages = played_pages c.args.pages.now c.args.link.now in
    let items = stream_items c.args.bytes.now pages in
    let given = rw c.pages_in-pages.ensures at c.in-Ok.ensures.answers in
    let within = few c.args.left items (items_of c.args.bytes.now c.in-Ok.entries.items) given in
    sym (length-items c.args.bytes.now c.in-Ok.entries.items) ∙ ap length within.same

pub returns-clause-left : goal.returns-clause-left
returns-clause-left c =
    let pages = played_pages c.args.pages.now c.args.link.now in
    let items = stream_items c.args.bytes.now pages in
    let given = rw c.pages_in-pages.ensures at c.in-Ok.ensures.answers in
    let within = few c.args.left items (items_of c.args.bytes.now c.in-Ok.entries.items) given in
    omega (arith, within.few, length-items c.args.bytes.now c.in-Ok.entries.items, ap length within.same)

pub counts_of-counts-requires-clause-pages : goal.counts_of-counts-requires-clause-pages
counts_of-counts-requires-clause-pages c = omega (arith, c.requires.count, ap length c.pages_in-pages.ensures, pages_few c.args.pages.now c.args.link.now)

pub block_places-requires : goal.block_places-requires
block_places-requires c =
    let items = stream_items c.args.bytes.now (played_pages c.args.pages.now c.args.link.now) in
    let given = rw c.pages_in-pages.ensures at c.in-Ok.ensures.answers in
    let within = few c.args.left items (items_of c.args.bytes.now c.in-Ok.entries.items) given in
    let rows = rw c.deref-2.ensures.value at c.in_ok-rows.ensures in
    omega (arith, rows_behind c.args.bytes.now _ c.in_ok-heads.heads.ident c.in_ok-heads.heads.setup c.in_ok-rows.rows rows, within.few, length-items c.args.bytes.now c.in-Ok.entries.items, ap length within.same, c.ranges.left.fits)
