use Rattle.std.proofs.Common.{◌≡◌, ◌-◌, ◌^◌, ◌≤◌, ◌∙◌, ap, sym, subst, length, List, ℤ, unsigned_abs, get_or, arith}
use Rattle.std.specs.List.{All}
use Rattle.model_synthesis.specs.Tables.{ConstantTables, AreTables, turn_of}
use Rattle.model_synthesis.proofs.Turns.{length-turn_of}
use Rattle.constants_file.proofs.TurnPlaces.{HasExponent, exponent_of, turn_at, length-turns_of, turn_of_small}
use Rattle.constants_file.proofs.constants.Constants.turn.Goals as goal

is_exponent : (c : goal.After-ilog2) → HasExponent c.args.block c.ilog2.result
is_exponent c = exponent_of c.args.block c.ilog2.result c.requires.block c.ilog2.ensures.power_le c.ilog2.ensures.next_power_gt

is_turn : (c : goal.After-items) → c.items.result.now ≡ turn_of c.args.self.now.cosines c.args.block
is_turn c =
    c.items.ensures
    ∙ (turn_at c.self.inside.transforms c.args.block c.ilog2.result c.index.result.now
    (exponent_of c.args.block c.ilog2.result c.requires.block c.ilog2.ensures.power_le c.ilog2.ensures.next_power_gt)
    (c.index.ensures ∙ ap (λ (turns : List (List ℤ)). get_or turns (c.ilog2.result - 6) c.index.result.now) c.self.invariant.1)
    ∙ ap (λ (t : ConstantTables). turn_of t.cosines c.args.block) c.self.view_is)

pub overflow_sub-ilog2 : goal.overflow_sub-ilog2
overflow_sub-ilog2 c = (is_exponent c).least

pub index-requires : goal.index-requires
index-requires c =
    let exponent = is_exponent c in
    let count : length c.self.inside.turns.items ≡ 8 = ap length c.self.invariant.1 ∙ length-turns_of c.self.inside.transforms in
    omega arith

pub returns-clause-values : goal.returns-clause-values
returns-clause-values c = is_turn c

pub returns-clause-count : goal.returns-clause-count
returns-clause-count c = ap length (is_turn c) ∙ length-turn_of c.args.self.now.cosines c.args.block

pub returns-clause-small : goal.returns-clause-small
returns-clause-small c =
    subst (All (λ v. unsigned_abs v ≤ 2 ^ c.args.self.now.scale)) (sym (is_turn c))
    (turn_of_small c.args.self.now.cosines c.args.block (2 ^ c.args.self.now.scale)
    (subst AreTables c.self.view_is c.self.invariant.0).cosines)
