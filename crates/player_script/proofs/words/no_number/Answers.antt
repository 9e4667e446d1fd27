use Rattle.std.proofs.Common.{ap, ◌∙◌}
use Rattle.player_script.specs.Words.{words_behind, numbers_of}
use Rattle.player_script.proofs.WordSteps.{has_words}
use Rattle.player_script.proofs.words.no_number.Goals as goal

pub returns-in-Some : goal.returns-in-Some
returns-in-Some c = ap (λ w. numbers_of 0 (words_behind w)) c.in-Some.is ∙ has_words c.in-Some.field-0.now
