use Rattle.std.proofs.Common.{◌≡◌, ◌∙◌, ℕ, List, length, ap, arith}
use Rattle.model_trial.specs.MadeScript.{made_script}
use Rattle.player_session.proofs.MadeSizes.{script_is_short}
use Rattle.player_session.proofs.trial.made_script.Goals as goal

pub read-requires : goal.read-requires
read-requires c =
    let size : length c.deref.result.now ≡ length (made_script c.args.number) = ap (λ (bytes : List ℕ). length bytes) (c.deref.ensures.value ∙ c.in_ok-bytes.ensures.made) in
    omega (arith, size, script_is_short c.args.number)
