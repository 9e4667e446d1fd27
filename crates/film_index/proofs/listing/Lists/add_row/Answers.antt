use Rattle.std.proofs.Common.{sym, arith, inl, inr}
use Rattle.std.proofs.lemmas.List.{append-nil}
use Rattle.model_line.specs.Trim.{trimmed}
use Rattle.model_line.specs.Origins.{kind_of}
use Rattle.film_index.proofs.RowSteps.{some_before, block_row}
use Rattle.film_index.proofs.listing.Lists.add_row.Goals as goal

pub returns-in_ok-add_gap-in-Lost-clause-listed : goal.returns-in_ok-add_gap-in-Lost-clause-listed
unfolding trimmed
returns-in_ok-add_gap-in-Lost-clause-listed c = rw c.in-Lost.is c.in_ok-add_gap-in-Lost.ensures.listed

pub returns-in_ok-add_gap-in-Bad-clause-listed : goal.returns-in_ok-add_gap-in-Bad-clause-listed
unfolding trimmed
returns-in_ok-add_gap-in-Bad-clause-listed c = rw c.in-Bad.is c.in_ok-add_gap-in-Bad.ensures.listed

pub returns-in-Skip-clause-listed : goal.returns-in-Skip-clause-listed
unfolding trimmed
returns-in-Skip-clause-listed c = rw c.in-Skip.is (sym (append-nil _))

pub add_kept-requires-clause-some : goal.add_kept-requires-clause-some
add_kept-requires-clause-some c = some_before c.args.counts.now.blocks _ (kind_of c.args.link.now.sizes.short c.args.link.now.sizes.long c.args.kind) c.args.walk.now.previous c.requires.some (omega (arith, c.pass.ensures.frames))

pub add_kept-requires-clause-edge : goal.add_kept-requires-clause-edge
add_kept-requires-clause-edge c = elim c.requires.edge [
  | inl behind ↦ inl behind
  | inr before ↦ inr (omega (arith, c.pass.ensures.frames))
]

pub returns-in_ok-add_kept-in-Block-clause-listed : goal.returns-in_ok-add_kept-in-Block-clause-listed
returns-in_ok-add_kept-in-Block-clause-listed c =
    let link = c.args.link.now in
    block_row link.cuts link.number link.sizes.short link.sizes.long c.args.counts.now.blocks _ c.args.walk.now.frames _ c.args.kind c.args.walk.now.previous _ _
    c.requires.some c.in-Block.is (omega (arith, c.pass.ensures.frames)) c.in_ok-add_kept-in-Block.ensures.listed
