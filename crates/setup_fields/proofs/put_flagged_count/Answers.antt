use Rattle.std.proofs.Common.{◌≡◌, ◌==◌, false, if◌then◌else◌, ◌++◌, subst}
use Rattle.std.proofs.lemmas.Bool.{ne_eqb}
use Rattle.model_bits.specs.Writing.{in_bits, count_in_bits}
use Rattle.setup_fields.specs.Puts.{HavePlaces}
use Rattle.setup_fields.proofs.Puts.{first_place, next_places}
use Rattle.setup_fields.proofs.put_flagged_count.Goals as goal

pub put_count-requires-clause-fits : goal.put_count-requires-clause-fits
put_count-requires-clause-fits c =
    let a = c.args in
    let other : (a.count == a.other) ≡ false = ne_eqb a.count a.other c.if-count-other.false in
    let have = subst (λ b. HavePlaces (if b then in_bits 1 0 else in_bits 1 1 ++ count_in_bits a.width a.count)) other c.requires.fits in
    first_place (next_places have)
