use Rattle.std.proofs.Common.{◌≤◌, take}
use Rattle.std.specs.List.{concat}
use Rattle.std.specs.Io.KnownBytes.{Appends}
use Rattle.player_session.proofs.play.put_texts.Given as goal

abbrev pub invariant-loop-text : goal.invariant-loop-text
invariant-loop-text g l =
    Appends (g.K.Sink.written l.fn.out) (g.K.Sink.written l.out) (concat (take l.text-index l.texts))
    × (g.K.Sink.faults l.fn.out ≤ g.K.Sink.faults l.out)
