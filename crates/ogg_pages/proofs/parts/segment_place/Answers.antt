use Rattle.std.proofs.Common.{arith}
use Rattle.std.proofs.lemmas.List.Sums.{sum_by-take-drop}
use Rattle.ogg_pages.proofs.parts.segment_place.Goals as goal

pub returns-clause-within : goal.returns-clause-within
returns-clause-within c =
    rw (← c.laces.ensures.value) (omega (arith, sum_by-take-drop (λ x. x) c.laces.result.now c.args.number, c.laces.ensures.sum, c.requires.page.within, c.segments_len-before.ensures, c.from.ensures, c.from-2.ensures))
