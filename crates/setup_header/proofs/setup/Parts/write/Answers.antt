use Rattle.std.proofs.Common.{OnOk, subst, sym}
use Rattle.model_setup.specs.SetupPacket.{SetupFields}
use Rattle.model_writing.specs.SetupWriting.{setup_fields}
use Rattle.setup_fields.specs.Puts.{ArePut, HavePlaces}
use Rattle.setup_fields.proofs.Puts.{on_ok}
use Rattle.setup_header.proofs.Written.{setup_places, setup_put}
use Rattle.setup_fields.proofs.Fronts.{front_same, front_then, on_err}
use Rattle.setup_header.proofs.setup.Parts.write.Goals as goal

pub write_books-requires : goal.write_books-requires
write_books-requires c =
    let s = c.self.inside in
    let parts : SetupFields = record { books = s.books.items; floors = s.floors.items; residues = s.residues.items; mappings = s.mappings.items; modes = s.modes.items } in
    let have = setup_places parts (subst (λ (setup : SetupFields). HavePlaces (setup_fields setup)) (sym c.self.view_is) c.requires.fits) in
    rw c.deref.ensures.value have.books

pub write_floors-requires : goal.write_floors-requires
write_floors-requires c =
    let s = c.self.inside in
    let parts : SetupFields = record { books = s.books.items; floors = s.floors.items; residues = s.residues.items; mappings = s.mappings.items; modes = s.modes.items } in
    let have = setup_places parts (subst (λ (setup : SetupFields). HavePlaces (setup_fields setup)) (sym c.self.view_is) c.requires.fits) in
    rw c.deref-2.ensures.value have.floors

pub write_residues-requires : goal.write_residues-requires
write_residues-requires c =
    let s = c.self.inside in
    let parts : SetupFields = record { books = s.books.items; floors = s.floors.items; residues = s.residues.items; mappings = s.mappings.items; modes = s.modes.items } in
    let have = setup_places parts (subst (λ (setup : SetupFields). HavePlaces (setup_fields setup)) (sym c.self.view_is) c.requires.fits) in
    rw c.deref-3.ensures.value have.residues

pub write_mappings-requires-clause-fits : goal.write_mappings-requires-clause-fits
write_mappings-requires-clause-fits c =
    let s = c.self.inside in
    let parts : SetupFields = record { books = s.books.items; floors = s.floors.items; residues = s.residues.items; mappings = s.mappings.items; modes = s.modes.items } in
    let have = setup_places parts (subst (λ (setup : SetupFields). HavePlaces (setup_fields setup)) (sym c.self.view_is) c.requires.fits) in
    rw c.deref-4.ensures.value have.mappings

pub write_modes-requires : goal.write_modes-requires
write_modes-requires c =
    let s = c.self.inside in
    let parts : SetupFields = record { books = s.books.items; floors = s.floors.items; residues = s.residues.items; mappings = s.mappings.items; modes = s.modes.items } in
    let have = setup_places parts (subst (λ (setup : SetupFields). HavePlaces (setup_fields setup)) (sym c.self.view_is) c.requires.fits) in
    rw c.deref-5.ensures.value have.modes

pub returns-clause-put : goal.returns-clause-put
returns-clause-put c =
    let s = c.self.inside in
    let parts : SetupFields = record { books = s.books.items; floors = s.floors.items; residues = s.residues.items; mappings = s.mappings.items; modes = s.modes.items } in
    subst (λ (setup : SetupFields). OnOk c.put_flag.result (ArePut c.args.out.now c.put_flag.new.out (setup_fields setup))) c.self.view_is
    (on_ok c.put_flag.result c.put_flag.ensures.put (λ last.
    setup_put parts c.in_ok-write_start.ensures.put (rw c.deref.ensures.value at c.in_ok-write_books.ensures.put) c.in_ok-write_time_transforms.ensures.put (rw c.deref-2.ensures.value at c.in_ok-write_floors.ensures.put)
    (rw c.deref-3.ensures.value at c.in_ok-write_residues.ensures.put) (rw c.deref-4.ensures.value at c.in_ok-write_mappings.ensures.put) (rw c.deref-5.ensures.value at c.in_ok-write_modes.ensures.put) last))

pub returns-clause-kept : goal.returns-clause-kept
returns-clause-kept c = on_err c.put_flag.result c.put_flag.ensures.stays (λ last. front_then c.in_ok-write_start.ensures.put (front_then c.in_ok-write_books.ensures.put (front_then c.in_ok-write_time_transforms.ensures.put (front_then c.in_ok-write_floors.ensures.put (front_then c.in_ok-write_residues.ensures.put (front_then c.in_ok-write_mappings.ensures.put (front_then c.in_ok-write_modes.ensures.put (front_same last))))))))
