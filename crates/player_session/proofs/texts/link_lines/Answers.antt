use Rattle.std.proofs.Common.{Some, ap, sym, ◌∙◌}
use Rattle.std.proofs.lemmas.Result.{IfOk-weaker}
use Rattle.player_session.proofs.Lines.{lines_of_link}
use Rattle.player_session.proofs.texts.link_lines.Goals as goal

pub returns : goal.returns
returns c =
    let facts = rw c.index.ensures.value at c.link-facts.ensures in
    let lines = lines_of_link c.args.number c.args.film.now.links c.args.film.now.index c.counts-counts.result c.link-facts.result c.requires.index c.counts-counts.ensures facts in
    IfOk-weaker c.lines_by.result _ _ (λ text is. lines ∙ ap Some (sym is)) c.lines_by.ensures
