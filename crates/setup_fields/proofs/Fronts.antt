-- What was there before stays in front of all that is put one after the other.
use Rattle.std.proofs.Common.{◌≡◌, List, [], ◌++◌, Result, Ok, Err, OnErr, sym, ap, ◌∙◌, append_assoc, Bool}
use Rattle.std.proofs.lemmas.List.{append-nil}
use Rattle.model_bits.specs.Writing.{WrittenField, bits_of_fields}
use Rattle.setup_fields.specs.Puts.{ArePut, IsFrontOf}

pub front_same : {before after : List Bool} → after ≡ before → IsFrontOf before after
front_same {before} same = ([], same ∙ sym (append-nil before))

pub front_then : {before between after : List Bool} {fields : List WrittenField} → ArePut before between fields → IsFrontOf between after → IsFrontOf before after
front_then {before} {fields} first then =
    (bits_of_fields fields ++ then.0, then.1 ∙ ap (λ bs. bs ++ then.0) first.behind ∙ append_assoc before (bits_of_fields fields) then.0)

-- what follows where there was no memory
pub on_err : {T E : Type 0} {P Q : Type 0} (r : Result T E) → OnErr r P → (P → Q) → OnErr r Q
on_err (Ok x) holds f = tt
on_err (Err e) holds f = f holds
