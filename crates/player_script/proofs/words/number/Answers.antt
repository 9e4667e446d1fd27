use Rattle.std.proofs.Common.{◌≡◌, true, refl, arith, rules, tests}
use Rattle.std.proofs.lemmas.Bool.Decides.{nat_tests}
use Rattle.model_script.specs.Lines.{is_plain}
use Rattle.player_script.proofs.NumberWords.{plain_text, is_too_great}
use Rattle.player_script.proofs.words.number.Goals as goal

pub returns-in_default : goal.returns-in_default
returns-in_default c =
    let plain : is_plain c.args.word.now ≡ true = first_of (search (rules, tests), grind (arith, nat_tests), cc) in
    absurd (c.in_default.ensures.cases.0 (plain_text c.args.word.now plain))

pub returns-in_default-parse : goal.returns-in_default-parse
returns-in_default-parse c =
    let plain : is_plain c.args.word.now ≡ true = first_of (search (rules, tests), grind (arith, nat_tests), cc) in
    let parsed = rw c.in-Ok.ensures.cases.0 at c.in_default-parse.ensures.value.0 in
    (is_too_great c.args.word.now c.in_default-parse.field-0 plain parsed, refl)
