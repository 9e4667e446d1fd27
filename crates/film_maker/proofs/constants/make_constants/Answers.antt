use Rattle.std.proofs.Common.{◌≡◌, ◌++◌, ℕ, List, ap, ◌∙◌, rules, arith}
use Rattle.std.specs.List.{flat_map}
use Rattle.std.proofs.lemmas.Grind.{common_steps}
use Rattle.model_synthesis.specs.declared.constants.TheConstants.{CONSTANTS_WORD}
use Rattle.model_synthesis.specs.ConstantsFile.{constants_of}
use Rattle.model_trial.specs.MadeConstants.{number_bytes, made_decibels, made_constants}
use Rattle.model_trial.proofs.Curves.{made_constants_are_accepted}
use Rattle.film_maker.proofs.Numbers.{whole_file}
use Rattle.film_maker.proofs.constants.make_constants.Goals as goal

pub returns-clause-made : goal.returns-clause-made
returns-clause-made c =
    let word : c.extend_from_slice.new.self.items ≡ CONSTANTS_WORD = first_of (search rules, grind (arith, common_steps)) in
    whole_file c.put_decibels.new.bytes.items c.put_slopes.new.bytes.items c.put_cosines.new.bytes.items
    (c.in_ok-put_decibels.ensures ∙ ap (λ (bs : List ℕ). bs ++ flat_map number_bytes made_decibels) word)
    c.in_ok-put_slopes.ensures c.in_ok-put_cosines.ensures

pub returns-clause-accepted : goal.returns-clause-accepted
returns-clause-accepted c =
    let word : c.extend_from_slice.new.self.items ≡ CONSTANTS_WORD = first_of (search rules, grind (arith, common_steps)) in
    let is : c.put_cosines.new.bytes.items ≡ made_constants =
    whole_file c.put_decibels.new.bytes.items c.put_slopes.new.bytes.items c.put_cosines.new.bytes.items
    (c.in_ok-put_decibels.ensures ∙ ap (λ (bs : List ℕ). bs ++ flat_map number_bytes made_decibels) word)
    c.in_ok-put_slopes.ensures c.in_ok-put_cosines.ensures in
    ap constants_of is ∙ made_constants_are_accepted
