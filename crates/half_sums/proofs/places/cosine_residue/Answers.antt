use Rattle.std.proofs.Common.{◌∙◌, ap, rules, w64}
use Rattle.std.proofs.lemmas.Int.{to_z-of_z}
use Rattle.number_transform.specs.Field.{residue_of}
use Rattle.half_sums.proofs.places.cosine_residue.Goals as goal

pub returns-clause-value : goal.returns-clause-value
returns-clause-value c =
    c.from_signed.ensures.value
    ∙ ap residue_of (to_z-of_z w64 c.cosine.result (search rules) ∙ c.cosine.ensures.value)
