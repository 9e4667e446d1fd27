use Rattle.std.proofs.Common.{ap, ◌∙◌, arith}
use Rattle.std.proofs.lemmas.Result.{err_from_is_err_and}
use Rattle.model_ogg.proofs.PageCount.{pages_within}
use Rattle.model_ogg.proofs.LinkLaws.{numbers_law}
use Rattle.model_line.specs.LinkFaults.{of_links}
use Rattle.film_blocks.proofs.LinkSteps.{by_links, by_refusal}
use Rattle.film_blocks.proofs.ReadSteps.{film_right, film_blocks_few}
use Rattle.film_blocks.proofs.FilmLines.{line_by_read, agrees_by_read}
use Rattle.film_blocks.proofs.film.Film.open.Goals as goal

pub links-requires-clause-few : goal.links-requires-clause-few
links-requires-clause-few c = rw (c.deref-3.ensures.value, c.in_ok-pages.ensures.value, c.deref.ensures.value) (omega (arith, pages_within c.args.bytes.items, c.requires))

pub returns-in_err-links-clause-film : goal.returns-in_err-links-clause-film
returns-in_err-links-clause-film c =
    let p = err_from_is_err_and c.from_residual-in_err-links.result c.from_residual-in_err-links.ensures.1 in
    let refused = rw (c.deref-2.ensures.value, c.deref-3.ensures.value, c.in_ok-pages.ensures.value, c.deref.ensures.value) at c.in_err-links.ensures.answers in
    rw (p.1, p.2) (λ other. by_refusal c.args.bytes.items c.in_err-links.field-0.0 (refused (λ e. other (ap of_links e))))

pub read_links-requires-clause-count : goal.read_links-requires-clause-count
read_links-requires-clause-count c = rw (c.deref-5.ensures.value, c.in_ok-pages.ensures.value, c.deref.ensures.value) (omega (arith, pages_within c.args.bytes.items, c.requires))

pub read_links-requires-clause-links : goal.read_links-requires-clause-links
read_links-requires-clause-links c =
    let few = (numbers_law _ _ c.in_ok-links.links.items c.in_ok-links.ensures.answers).few in
    rw c.deref-6.ensures.value few

pub returns-in_err-held-clause-film : goal.returns-in_err-held-clause-film
returns-in_err-held-clause-film c =
    let p = err_from_is_err_and c.from_residual-in_err-held.result c.from_residual-in_err-held.ensures.1 in
    let found = rw (c.deref-2.ensures.value, c.deref-3.ensures.value, c.in_ok-pages.ensures.value, c.deref.ensures.value) at c.in_ok-links.ensures.answers in
    let said = rw (c.deref-4.ensures.value, c.deref-5.ensures.value, c.deref-6.ensures.value, c.in_ok-pages.ensures.value, c.deref.ensures.value) at c.in_err-held.ensures.links in
    rw (p.1, p.2) (λ other. by_links c.args.bytes.items c.in_ok-links.links.items found ∙ said other)

pub block_ends-requires : goal.block_ends-requires
block_ends-requires c =
    let read = rw c.deref-4.ensures.value at c.in_ok-held.ensures.read in
    rw c.deref-7.ensures.value (film_blocks_few c.args.bytes.items c.in_ok-held.field-0.held.items c.in_ok-held.field-0.rows.items read c.in_ok-held.ensures.fits)

pub invariant_of-result : goal.invariant_of-result
invariant_of-result c =
    let read = rw c.deref-4.ensures.value at c.in_ok-held.ensures.read in
    let ends = rw c.deref-7.ensures.value at c.in_ok-ends.ensures in
    film_right c.args.bytes.items c.in_ok-held.field-0.held.items c.in_ok-held.field-0.rows.items c.in_ok-ends.ends.items c.in_ok-index.index read c.in_ok-held.ensures.fits ends c.in_ok-index.ensures

pub returns-clause-film : goal.returns-clause-film
returns-clause-film c =
    let found = rw (c.deref-2.ensures.value, c.deref-3.ensures.value, c.in_ok-pages.ensures.value, c.deref.ensures.value) at c.in_ok-links.ensures.answers in
    let said = rw (c.deref-4.ensures.value, c.deref-5.ensures.value, c.deref-6.ensures.value, c.in_ok-pages.ensures.value, c.deref.ensures.value) at c.in_ok-held.ensures.links in
    by_links c.args.bytes.items c.in_ok-links.links.items found ∙ said

pub returns-clause-line : goal.returns-clause-line
returns-clause-line c tables =
    let found = rw (c.deref-2.ensures.value, c.deref-3.ensures.value, c.in_ok-pages.ensures.value, c.deref.ensures.value) at c.in_ok-links.ensures.answers in
    let said = rw (c.deref-4.ensures.value, c.deref-5.ensures.value, c.deref-6.ensures.value, c.in_ok-pages.ensures.value, c.deref.ensures.value) at c.in_ok-held.ensures.links in
    let read = rw c.deref-4.ensures.value at c.in_ok-held.ensures.read in
    line_by_read tables c.args.bytes.items c.in_ok-held.field-0.held.items c.in_ok-held.field-0.rows.items c.in_ok-index.index (by_links c.args.bytes.items c.in_ok-links.links.items found ∙ said) read c.in_ok-index.ensures

pub returns-clause-agrees : goal.returns-clause-agrees
returns-clause-agrees c tables =
    let found = rw (c.deref-2.ensures.value, c.deref-3.ensures.value, c.in_ok-pages.ensures.value, c.deref.ensures.value) at c.in_ok-links.ensures.answers in
    let said = rw (c.deref-4.ensures.value, c.deref-5.ensures.value, c.deref-6.ensures.value, c.in_ok-pages.ensures.value, c.deref.ensures.value) at c.in_ok-held.ensures.links in
    let read = rw c.deref-4.ensures.value at c.in_ok-held.ensures.read in
    agrees_by_read tables c.args.bytes.items c.in_ok-held.field-0.held.items c.in_ok-held.field-0.rows.items c.in_ok-index.index (by_links c.args.bytes.items c.in_ok-links.links.items found ∙ said) read c.in_ok-index.ensures
