use Rattle.std.proofs.Common.{◌∙◌}
use Rattle.cursor.proofs.FrameValues.{whole_values, frames_of_values}
use Rattle.cursor.proofs.frames.run_frames.Goals as goal

pub of-requires-clause-whole : goal.of-requires-clause-whole
of-requires-clause-whole c = whole_values _ _ _ c.requires.some c.requires.each c.in_ok-frames_of.ensures

pub returns : goal.returns
returns c = c.of.ensures ∙ frames_of_values _ _ _ c.requires.some c.requires.each c.in_ok-frames_of.ensures
