use Rattle.std.proofs.Common.{List, map, ap, sym, ◌∙◌}
use Rattle.std.proofs.lemmas.Result.{IfOk-weaker}
use Rattle.model_script.specs.declared.command.Answer.{Answer}
use Rattle.model_report.specs.Lanes.{LaneCursor, lane_answer}
use Rattle.model_report.specs.Reports.{film_channels, heard_of}
use Rattle.script_playing.specs.Playing.{state_at}
use Rattle.script_playing.proofs.FilmCursors.{answer_channels}
use Rattle.script_playing.proofs.LaneSteps.{line_written}
use Rattle.script_playing.proofs.lane.write_answer.Goals as goal

pub returns-clause-text : goal.returns-clause-text
returns-clause-text c =
    let reel = c.args.reel.now in
    let count = rw c.index.ensures.value at c.channels_of-channels.ensures in
    let said = ap (λ (r : Answer × List LaneCursor). r.0) c.in_ok-answer.ensures.answer in
    IfOk-weaker c.reply_text.result _ _
    (λ _ written. line_written (film_channels reel.film.links) c.args.command c.in_ok-answer.answer (lane_answer (heard_of reel.constants reel.film.links) (map (state_at reel.film.index.items) c.args.cursors.now) c.args.command).0 c.channels_of-channels.result c.args.text.now.items _ written
    (count ∙ answer_channels reel.film.index.links reel.film.links c.in_ok-answer.answer c.requires.reel.indexed.facts) said)
    c.reply_text.ensures.ok

pub returns-clause-cursors : goal.returns-clause-cursors
returns-clause-cursors c =
    IfOk-weaker c.reply_text.result _ _ (λ _ written. sym (ap (λ (r : Answer × List LaneCursor). r.1) c.in_ok-answer.ensures.answer)) c.reply_text.ensures.ok
