use Rattle.std.proofs.Common.{◌-◌, [], ◌∷◌, length, length-append, ap, arith}
use Rattle.std.proofs.lemmas.Result.{err_from_is_err_and}
use Rattle.film_index.specs.Bounds.{rows_in}
use Rattle.film_blocks.specs.Held.{link_in, links_in}
use Rattle.film_blocks.proofs.LinkSteps.{links_go_on, links_fail, links_end}
use Rattle.film_blocks.proofs.ReadSteps.{read_one, links_in-push, rows_few, rows_in-push}
use Rattle.film_blocks.proofs.links.read_links.Goals as goal

pub returns-in_err-read-clause-links : goal.returns-in_err-read-clause-links
returns-in_err-read-clause-links c =
    let p = err_from_is_err_and c.from_residual-in_err-read.result c.from_residual-in_err-read.ensures.1 in
    rw (p.1, p.2) (λ other. links_fail c.args.bytes.now c.args.pages.now c.args.links.now c.loop-i.i c.loop-i.left (record { first = 0; end = 0; serial = 0 }) _ c.in_err-read.field-0.0 _
    c.loop-i-test.true c.loop-i.invariant.links (c.in_err-read.ensures.link other))

pub loop-i-preserved : goal.loop-i-preserved
loop-i-preserved c =
    let bytes = c.args.bytes.now in
    let read = c.in_ok-read.read in
    let said = c.in_ok-read.ensures in
    let old = c.loop-i.invariant in
    record {
      links = rw (links_in-push bytes c.loop-i.held.items c.push.new.self.items read.held c.in_ok-push.ensures.items)
          (links_go_on bytes c.args.pages.now c.args.links.now c.loop-i.i c.loop-i.left (c.loop-i.left - c.len.result) (record { first = 0; end = 0; serial = 0 }) (links_in bytes c.loop-i.held.items) (link_in bytes read.held) _
          c.loop-i-test.true said.link (omega (arith, said.count, said.left, c.len.ensures)) old.links);
      read = rw (c.in_ok-push.ensures.items, c.in_ok-push-2.ensures.items) (read_one bytes c.loop-i.held.items c.loop-i.rows.items read.held read.rows old.read said.read);
      room = omega (arith, ap rows_in c.in_ok-push-2.ensures.items, rows_in-push c.loop-i.rows.items read.rows, rows_few bytes read.held read.rows said.read, c.len.ensures, said.left, old.room);
      count = omega (arith, ap length c.in_ok-push-2.ensures.items, length-append c.loop-i.rows.items (read.rows ∷ []), old.count);
    }

pub returns-clause-links : goal.returns-clause-links
returns-clause-links c = links_end c.args.bytes.now c.args.pages.now c.args.links.now c.loop-i.i c.loop-i.left _ _ c.loop-i-test.false c.loop-i.invariant.links

pub returns-clause-fits : goal.returns-clause-fits
returns-clause-fits c = record {
  count = omega (arith, c.loop-i.invariant.count, c.loop-i.auto.i-end, c.requires.links);
  rows = omega (arith, c.loop-i.invariant.room);
  sizes = c.loop-i.invariant.read.fits;
}
