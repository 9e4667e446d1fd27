use Rattle.std.proofs.Common.{◌∙◌}
use Rattle.player_session.proofs.Counts.{number_told}
use Rattle.player_session.proofs.command.number_of.Goals as goal

pub returns : goal.returns
returns c =
    let told = rw c.as_bytes.ensures.value at c.number.ensures in
    c.ok.ensures.value ∙ number_told c.args.word.now c.number.result told
