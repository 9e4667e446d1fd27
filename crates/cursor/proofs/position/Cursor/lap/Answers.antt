use Rattle.std.proofs.Common.{◌≡◌, ◌∙◌, ap, sym, arith, subst, List, ℕ}
use Rattle.model_cursor.specs.declared.need.Need.{Need}
use Rattle.model_cursor.specs.declared.reply.Sought.TheVariants as answers
use Rattle.model_cursor.specs.Cursors.{CursorState}
use Rattle.model_cursor.specs.Plans.{splicing_of, splice_needs, lap_needs}
use Rattle.model_cursor.specs.Positions.{state_in}
use Rattle.model_cursor.specs.Sources.{AreHalves, AreHalvesOf}
use Rattle.cursor.proofs.CursorRuns.{place_of}
use Rattle.cursor.proofs.Planned.{lap_to}
use Rattle.cursor.proofs.Spliced.{sought, lap_past, lap_within}
use Rattle.cursor.proofs.position.Cursor.lap.Goals as goal

pub returns-then-place-total-clause-answer : goal.returns-then-place-total-clause-answer
returns-then-place-total-clause-answer c = λ source are. lap_past (splicing_of c.args.constants.now c.args.index.now) c.args.index.now c.args.place _ (state_in c.args.index.now.items c.args.self.now) source are.suits c.total-total.ensures (omega arith)

pub finish_cross-requires-clause-halves : goal.finish_cross-requires-clause-halves
finish_cross-requires-clause-halves c =
    let old : ℕ = place_of c.args.index.now c.args.self.now in
    let plan : lap_needs c.args.index.now old c.args.place ≡ splice_needs c.args.index.now old (place_of c.args.index.now c.at-new.result) =
    lap_to c.args.index.now old c.args.place (omega arith) ∙ ap (λ (s : CursorState). splice_needs c.args.index.now old s.place) (sym c.at-new.ensures.state) in
    subst (λ (ns : List Need). AreHalves c.args.index.now ns c.args.halves.now) plan c.requires.halves

pub returns-clause-answer : goal.returns-clause-answer
returns-clause-answer c = λ source are.
    let old : ℕ = place_of c.args.index.now c.args.self.now in
    let plan : lap_needs c.args.index.now old c.args.place ≡ splice_needs c.args.index.now old (place_of c.args.index.now c.at-new.result) =
    lap_to c.args.index.now old c.args.place (omega arith) ∙ ap (λ (s : CursorState). splice_needs c.args.index.now old s.place) (sym c.at-new.ensures.state) in
    lap_within (splicing_of c.args.constants.now c.args.index.now) c.args.index.now c.args.place (state_in c.args.index.now.items c.args.self.now) (state_in c.args.index.now.items c.at-new.result) source are.suits (omega arith) (ap (λ (s : CursorState). s.place) c.at-new.ensures.state)
    ∙ ap (λ (s : CursorState). sought (answers.At c.args.place) s) (c.in_ok-finish_cross.ensures.answer source (subst (λ (ns : List Need). AreHalvesOf c.args.index.now ns c.args.halves.now source) plan are))
