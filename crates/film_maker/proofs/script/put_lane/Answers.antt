use Rattle.std.proofs.Common.{◌++◌, ◌∙◌, ℕ, List, [], ◌∷◌, ap, append_assoc}
use Rattle.std.specs.Prelude.{codes}
use Rattle.std.specs.List.{flat_map}
use Rattle.model_trial.specs.MadeScript.{command_line, drawn_commands}
use Rattle.film_maker.proofs.DrawnLines.{on_ok, lane_is, lane_goes_on}
use Rattle.film_maker.proofs.script.put_lane.Goals as goal

pub returns-clause-written : goal.returns-clause-written
returns-clause-written c =
    let old = c.args.bytes.now.items in
    let front : List ℕ = codes "lane" ++ (10 ∷ (codes "open 0" ++ (10 ∷ (codes "open 1" ++ 10 ∷ [])))) in
    let rest = flat_map command_line (drawn_commands c.args.draws.now).0 in
    on_ok c.put_commands.result (λ e. e
    ∙ ap (λ (bs : List ℕ). bs ++ rest) c.in_ok-put.ensures
    ∙ append_assoc old front rest
    ∙ ap (λ (bs : List ℕ). old ++ bs) (lane_is c.args.draws.now)) c.put_commands.ensures.written

pub returns-clause-drawn : goal.returns-clause-drawn
returns-clause-drawn c =
    on_ok c.put_commands.result (λ e. e ∙ lane_goes_on c.args.draws.now) c.put_commands.ensures.drawn
