use Rattle.std.proofs.Common.{◌∙◌, arith}
use Rattle.player_script.proofs.NumberWords.{plain_digits}
use Rattle.player_script.proofs.words.is_plain.Goals as goal

pub returns-then-digit-ne48 : goal.returns-then-digit-ne48
returns-then-digit-ne48 c =
    c.are_digits.ensures ∙ plain_digits c.args.word.now (omega (arith, c.in-len1-up.len_at_least)) c.if-digit-ne48.true
