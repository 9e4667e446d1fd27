use Rattle.std.proofs.Common.{◌+◌, ◌-◌, ◌++◌, ap, sym, ◌∙◌, arith, inl, inr}
use Rattle.model_line.specs.Origins.{origin, listed}
use Rattle.film_index.proofs.KeptSteps.{kept_frames}
use Rattle.film_index.proofs.listing.Lists.add_kept.Goals.{then-first-link, else-first-link}
use Rattle.film_index.proofs.listing.Lists.add_kept.Goals as goal

pub returns-clause-listed : goal.returns-clause-listed
returns-clause-listed c =
    let last = c.args.counts.now.blocks - 1 in
    let kept = kept_frames c.args.link.now.cuts c.args.link.now.number (origin last (last + 1)) c.args.first c.args.count c.within-from.result c.if-first-link.to c.requires.cuts c.within-from.ensures (elim c.if-first-link.branch [
      | then-first-link w ↦ elim c.requires.edge [
        | inl behind ↦ absurd (omega arith)
        | inr before ↦ inr (before, w.to-is ∙ w.within-to.ensures)
      ]
      | else-first-link w ↦ inl (w.if-first-link.false, w.to-is)
    ]) in
    c.in_ok-add_span.ensures.listed ∙ ap (λ xs. listed c.args.self.now.items.items ++ xs) (sym kept)
