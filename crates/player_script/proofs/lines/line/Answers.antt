use Rattle.std.proofs.Common.{◌≡◌, Bool, true, false, not, ◌&&◌, refl, sym, ap, ◌∙◌}
use denote.Enum.Bare.{sameb}
use Rattle.model_script.specs.contracts.command.Verb.{the_type}
use Rattle.model_script.specs.declared.command.Verb.{Verb}
use Rattle.model_script.specs.declared.command.Verb.TheVariants as verbs
use Rattle.model_script.specs.Lines.{words_of, is_lane}
use Rattle.player_script.specs.Words.{words_behind}
use Rattle.player_script.proofs.LineSteps.{line_is}
use Rattle.player_script.proofs.lines.line.Goals.{else-not-begun-via-then-not-begun+else-ne, else-not-begun-via-else-not-begun}
use Rattle.player_script.proofs.lines.line.Goals as goal

lane_only : (verb : Verb) → not (sameb the_type verb verbs.Lane) ≡ false → is_lane verb ≡ true
lane_only verbs.Lane e = refl
lane_only verbs.Open e = cc
lane_only verbs.Read e = cc
lane_only verbs.Seek e = cc
lane_only verbs.Lap e = cc
lane_only verbs.Cross e = cc
lane_only verbs.Tell e = cc
lane_only verbs.Close e = cc

and_false : (b : Bool) → (b && false) ≡ false
and_false true = refl
and_false false = refl

stands_begun : (begun lane : Bool) → begun ≡ true → (not begun && not lane) ≡ false
stands_begun begun lane e = ap (λ b. not b && not lane) e

stands_not : (begun lane : Bool) → not begun ≡ false → (not begun && not lane) ≡ false
stands_not begun lane e = ap (λ b. b && not lane) e

pub returns-clause-says : goal.returns-clause-says
returns-clause-says c =
    let stands : (not c.args.begun && not (is_lane c.in-Some.verb)) ≡ false = elim c.else-not-begun.branch [
      | else-not-begun-via-then-not-begun+else-ne w ↦
          ap (λ b. not c.args.begun && not b) (lane_only c.in-Some.verb (sym w.ne.ensures ∙ w.if-ne.false))
          ∙ and_false (not c.args.begun)
      | else-not-begun-via-else-not-begun w ↦
          first_of (search (w.if-not-begun.false, stands_begun), search (w.if-not-begun.false, stands_not))
    ] in
    line_is c.args.begun (words_of c.args.line.now) c.split_word.result.0.now (words_behind c.split_word.result.1) c.in-Some.verb c.line_by.result c.split_word.ensures (sym c.verb.ensures ∙ c.in-Some.is) stands c.line_by.ensures.says
