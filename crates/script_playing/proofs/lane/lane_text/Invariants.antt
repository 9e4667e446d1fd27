use Rattle.std.proofs.Common.{◌≡◌, ◌+◌, ◌++◌, length, map, drop}
use Rattle.std.specs.List.{All}
use Rattle.model_script.specs.declared.limits.TheConstants.{GREATEST_CURSOR}
use Rattle.model_report.specs.Reports.{heard_of, answer_lines, lane_text}
use Rattle.script_playing.specs.Playing.{state_at, IsAt}
use Rattle.script_playing.proofs.lane.lane_text.Given as goal

abbrev pub invariant-loop-command : goal.invariant-loop-command
invariant-loop-command l = record {
  count : length l.cursors.items ≡ GREATEST_CURSOR + 1;
  positions : All (IsAt l.reel.film.index) l.cursors.items;
  text : l.text.items ++ answer_lines (heard_of l.reel.constants l.reel.film.links) (map (state_at l.reel.film.index.items) l.cursors.items) (drop l.command-index l.commands)
      ≡ lane_text (heard_of l.reel.constants l.reel.film.links) (l.number, l.commands);
}
