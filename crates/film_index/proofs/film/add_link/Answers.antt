use Rattle.std.proofs.Common.{arith}
use Rattle.model_line.specs.Origins.{entries_of}
use Rattle.film_index.proofs.FilmSteps.{frames_added, gaps_added, facts_are}
use Rattle.film_index.proofs.film.add_link.Goals as goal

pub overflow_sub-result : goal.overflow_sub-result
overflow_sub-result c =
    let frames = frames_added c.args.number c.args.listing.now.counts.blocks _ _ (entries_of c.args.link.now) _ _ c.requires.right.total c.in_ok-add_rows.ensures.right.total c.in_ok-add_rows.ensures.listed in
    omega (arith, frames)

pub overflow_sub-result-2 : goal.overflow_sub-result-2
overflow_sub-result-2 c =
    let gaps = gaps_added c.args.number c.args.listing.now.counts.blocks _ _ (entries_of c.args.link.now) _ _ c.requires.right.gaps c.in_ok-add_rows.ensures.right.gaps c.in_ok-add_rows.ensures.listed in
    omega (arith, gaps)

pub returns-clause-facts : goal.returns-clause-facts
returns-clause-facts c =
    let frames = frames_added c.args.number c.args.listing.now.counts.blocks _ _ (entries_of c.args.link.now) _ _ c.requires.right.total c.in_ok-add_rows.ensures.right.total c.in_ok-add_rows.ensures.listed in
    let gaps = gaps_added c.args.number c.args.listing.now.counts.blocks _ _ (entries_of c.args.link.now) _ _ c.requires.right.gaps c.in_ok-add_rows.ensures.right.gaps c.in_ok-add_rows.ensures.listed in
    facts_are c.args.number _ _ c.args.link.now (omega (arith, frames)) (omega (arith, gaps))
