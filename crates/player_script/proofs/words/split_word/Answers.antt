use Rattle.std.proofs.Common.{ℕ, ◌+◌, eqb, List, ◌∷◌, take, sym, ap, ◌∙◌, arith}
use Rattle.model_script.specs.Lines.{words_of}
use Rattle.player_script.proofs.Splits.{split_at, split_nowhere, not_true, whole_rest}
use Rattle.player_script.proofs.words.split_word.Goals as goal

pub returns-in-Some : goal.returns-in-Some
returns-in-Some c =
    let line = c.args.line.now in
    let place = c.in-Some.place in
    let found = c.in-Some.ensures in
    split_at (λ b. eqb b 32) line place found.0.high (λ i l. not_true _ (found.0.before i (omega arith) l)) found.1
    ∙ ap (λ (rest : List ℕ). take place line ∷ words_of rest) (sym (whole_rest line (place + 1)))

pub returns-in-None : goal.returns-in-None
returns-in-None c =
    let nowhere = c.in-None.ensures in
    split_nowhere (λ b. eqb b 32) c.args.line.now (λ i l. not_true _ (nowhere i (omega arith) l))
