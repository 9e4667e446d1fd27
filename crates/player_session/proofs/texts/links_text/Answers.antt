use Rattle.std.proofs.Common.{string_bytes}
use Rattle.player_session.proofs.Lines.{lines_go_on}
use Rattle.player_session.proofs.texts.links_text.Goals as goal

pub loop-number-preserved : goal.loop-number-preserved
loop-number-preserved c =
    let longer = rw c.deref.ensures at c.in_ok-push_str.ensures.bytes in
    lines_go_on c.args.film.now.links c.loop-number.number (string_bytes c.loop-number.text) (string_bytes c.in_ok-lines.lines) (string_bytes c.push_str.new.self) _ c.in_ok-lines.ensures longer c.loop-number.invariant
