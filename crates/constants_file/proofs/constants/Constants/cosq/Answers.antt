use Rattle.std.proofs.Common.{◌∙◌, ◌*◌, ◌%◌, ◌/◌, ℕ, ap, List, ℤ, pos, get_or, rules, w32, w64, FitsSigned}
use Rattle.std.proofs.lemmas.Int.{to_z-of_z}
use Rattle.model_synthesis.specs.Tables.{turn_of}
use Rattle.constants_file.proofs.TurnPlaces.{at_rest}
use Rattle.constants_file.proofs.constants.Constants.cosq.Goals as goal

pub returns-clause-value : goal.returns-clause-value
returns-clause-value c =
    let wide = c.from.ensures in
    let place : ℕ = c.args.t % (4 * c.from.result) / 2 in
    let read : ℤ = get_or c.turn.result.now (c.args.t % (4 * c.from.result) / 2) (pos 0) in
    let fits : FitsSigned w32 (get_or c.turn.result.now (c.args.t % (4 * c.from.result) / 2) (pos 0)) = search rules in
    to_z-of_z w64 c.from-2.result (search rules)
    ∙ (c.from-2.ensures
    ∙ (to_z-of_z w32 read fits
    ∙ (ap (λ (turn : List ℤ). get_or turn place (pos 0)) c.turn.ensures.values
    ∙ (ap (λ b. get_or (turn_of c.args.self.now.cosines c.args.block) (c.args.t % (4 * b) / 2) (pos 0)) c.from.ensures
    ∙ at_rest c.args.self.now.cosines c.args.block c.args.t (pos 0) c.requires.block c.requires.odd))))
