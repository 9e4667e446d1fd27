use Rattle.std.proofs.Common.{ℕ, ◌<◌, List, length, Ok, sym, ap, ◌∙◌, arith}
use Rattle.std.proofs.lemmas.Bool.Decides.{nat_tests}
use Rattle.model_script.specs.declared.command.Command.{Command}
use Rattle.model_script.specs.Scripts.{first_refusal, lanes_unless, said}
use Rattle.player_script.specs.Steps.{worded}
use Rattle.player_script.proofs.ScriptForms.{empty_script, script_is, few_lines}
use Rattle.player_script.proofs.script.Script.read.Goals as goal

pub returns-then-is_empty : goal.returns-then-is_empty
returns-then-is_empty c =
    empty_script c.args.bytes.now (grind (arith, nat_tests))
    ∙ ap (λ (ls : List (List Command)). Ok ls) (sym c.new.ensures.items)

pub read_lines-requires : goal.read_lines-requires
read_lines-requires c =
    let some : 0 < length c.args.bytes.now = grind (arith, nat_tests) in
    rw c.without_last_feed.ensures (few_lines c.args.bytes.now some c.requires)

pub returns : goal.returns
returns c =
    let some : 0 < length c.args.bytes.now = grind (arith, nat_tests) in
    let same = script_is c.args.bytes.now some ∙ ap (λ (text : List ℕ). lanes_unless (said (worded text)) (first_refusal (worded text))) (sym c.without_last_feed.ensures) in
    rw same c.read_lines.ensures
