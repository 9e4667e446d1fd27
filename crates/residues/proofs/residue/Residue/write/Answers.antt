use Rattle.std.proofs.Common.{◌≡◌, ◌-◌, ◌<◌, ◌^◌, length, OnOk, flat_map, subst, sym, arith}
use Rattle.model_setup.specs.ResidueSetup.{ResidueSetup}
use Rattle.model_bits.specs.Writing.{optional_byte}
use Rattle.model_writing.specs.SetupWriting.{cascade_fields, residue_fields}
use Rattle.setup_fields.specs.Puts.{ArePut, HavePlaces}
use Rattle.setup_fields.proofs.Puts.{field_then, then_put, first_place, next_places, on_ok}
use Rattle.setup_fields.proofs.Fronts.{front_then, on_err}
use Rattle.residues.proofs.residue.Residue.write.Goals as goal

pub put_number-requires-clause-fits : goal.put_number-requires-clause-fits
put_number-requires-clause-fits c =
    let have = subst (λ (residue : ResidueSetup). HavePlaces (residue_fields residue)) (sym c.self.view_is) c.requires in
    first_place have

pub put_number-requires-2-clause-fits : goal.put_number-requires-2-clause-fits
put_number-requires-2-clause-fits c =
    let have = subst (λ (residue : ResidueSetup). HavePlaces (residue_fields residue)) (sym c.self.view_is) c.requires in
    first_place (next_places have)

pub put_count-requires-clause-fits : goal.put_count-requires-clause-fits
put_count-requires-clause-fits c =
    let have = subst (λ (residue : ResidueSetup). HavePlaces (residue_fields residue)) (sym c.self.view_is) c.requires in
    first_place (next_places (next_places have))

pub overflow_cast-len : goal.overflow_cast-len
overflow_cast-len c =
    let s = c.self.inside in
    let have = subst (λ (residue : ResidueSetup). HavePlaces (residue_fields residue)) (sym c.self.view_is) c.requires in
    let few : length s.cascades.items - 1 < 2 ^ 6 = first_place (next_places (next_places (next_places have))) in
    omega (arith, few, c.len.ensures, s.cascades.ok.0)

pub put_count-requires-2-clause-fits : goal.put_count-requires-2-clause-fits
put_count-requires-2-clause-fits c =
    let s = c.self.inside in
    let have = subst (λ (residue : ResidueSetup). HavePlaces (residue_fields residue)) (sym c.self.view_is) c.requires in
    let few : length s.cascades.items - 1 < 2 ^ 6 = first_place (next_places (next_places (next_places have))) in
    omega (arith, few, c.len.ensures, s.cascades.ok.0)

pub returns-clause-put : goal.returns-clause-put
returns-clause-put c =
    let s = c.self.inside in
    let long : c.len.result ≡ length s.cascades.items = omega (arith, c.len.ensures, s.cascades.ok.0) in
    let count = rw long at c.in_ok-put_count-2.ensures.put in
    let class_book = rw c.from.ensures at c.in_ok-put_number-3.ensures.put in
    let flags = rw c.deref.ensures.value at c.in_ok-write_all_flags.ensures.put in
    let books = rw c.deref-2.ensures.value at c.write_cascades.ensures.put in
    subst (λ (residue : ResidueSetup). OnOk c.write_cascades.result (ArePut c.args.out.now c.write_cascades.new.out (residue_fields residue))) c.self.view_is (on_ok c.write_cascades.result books (λ last.
    field_then c.in_ok-put_number.ensures.put (field_then c.in_ok-put_number-2.ensures.put (field_then c.in_ok-put_count.ensures.put (field_then count (field_then class_book
    (then_put (flat_map cascade_fields s.cascades.items) (flat_map (flat_map optional_byte) s.cascades.items) flags last)))))))

pub returns-clause-kept : goal.returns-clause-kept
returns-clause-kept c = on_err c.write_cascades.result c.write_cascades.ensures.kept (λ last. front_then c.in_ok-put_number.ensures.put (front_then c.in_ok-put_number-2.ensures.put (front_then c.in_ok-put_count.ensures.put (front_then c.in_ok-put_count-2.ensures.put (front_then c.in_ok-put_number-3.ensures.put (front_then c.in_ok-write_all_flags.ensures.put last))))))
