use Rattle.model_setup.proofs.Digits.{begins_to, begins_from}
use Rattle.model_setup.proofs.codeword_laws.codewords_are_intervals.Goals as goal

pub returns : goal.returns
returns c w left placed =
    (λ h. let b = begins_to w left placed h in (b.0, b.1.0, b.1.1), λ h. begins_from w left placed h.0 (h.1, h.2))
