use Rattle.std.proofs.Common.{◌≡◌, ◌++◌, drop, string_bytes}
use Rattle.player_session.proofs.Lines.{lines_from}
use Rattle.player_session.proofs.texts.links_text.Given as goal

abbrev pub invariant-loop-number : goal.invariant-loop-number
invariant-loop-number l = string_bytes l.text ++ lines_from l.number (drop l.number l.film.links) ≡ lines_from 0 l.film.links
