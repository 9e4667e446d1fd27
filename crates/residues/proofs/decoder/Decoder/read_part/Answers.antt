use Rattle.std.proofs.Common.{◌≡◌, ◌<◌, ◌+◌, ◌*◌, [], Some, None, true, get_or, length, fold, ap, sym, ◌∙◌}
use Rattle.model_setup.specs.Codebook.{Codebook}
use Rattle.model_setup.specs.ResidueSetup.{ResidueSetup, Serves, has_values}
use Rattle.model_setup.specs.ResidueDecoding.{book_of, reading_places, after_reading}
use Rattle.residues.specs.Decoders.{state_of, vectors_of, step_of}
use Rattle.residues.proofs.Leads.{leads_none}
use Rattle.residues.proofs.Parts.{book_found, book_serves, class_within, class_read, pass_named, named_of, part_is}
use Rattle.residues.proofs.decoder.Decoder.read_part.Goals as goal

pub read_values-requires-clause-book : goal.read_values-requires-clause-book
read_values-requires-clause-book c =
    let d = c.args.self.now in
    let r = d.residue.now in
    let room = c.requires.room in
    let classes = c.args.workspace.now.classes.now in
    let place = class_within d classes c.args.vector c.args.partition room.rows c.requires.vector c.requires.partition in
    let class = get_or classes (c.args.vector * d.partitions + c.args.partition) 0 in
    let named = room.rows.named (c.args.vector * d.partitions + c.args.partition) 0 place in
    let cascades = ap (λ (s : ResidueSetup). s.cascades) c.residue.view_is in
    let read = rw (cascades, c.from.ensures) at c.index.ensures in
    let within : c.args.pass < length (get_or r.cascades class []) = rw (room.decoder.fits.passes class [] named) c.requires.pass in
    let serves = named_of (Serves has_values d.books.now) r class c.args.pass c.in-Some.number c.index.result.now named read c.in-Some.is (room.decoder.fits.value_books class [] named c.args.pass None within) in
    rw c.from-in-Some.ensures (book_serves has_values d.books.now c.in-Some.number c.index-self-from.result serves)

pub returns-in-Some : goal.returns-in-Some
returns-in-Some c =
    let d = c.args.self.now in
    let r = d.residue.now in
    let room = c.requires.room in
    let old = c.args.workspace.now in
    let classes = old.classes.now in
    let place = class_within d classes c.args.vector c.args.partition room.rows c.requires.vector c.requires.partition in
    let class = get_or classes (c.args.vector * d.partitions + c.args.partition) 0 in
    let named = room.rows.named (c.args.vector * d.partitions + c.args.partition) 0 place in
    let cascades = ap (λ (s : ResidueSetup). s.cascades) c.residue.view_is in
    let read = rw (cascades, c.from.ensures) at c.index.ensures in
    let within : c.args.pass < length (get_or r.cascades class []) = rw (room.decoder.fits.passes class [] named) c.requires.pass in
    let serves = named_of (Serves has_values d.books.now) r class c.args.pass c.in-Some.number c.index.result.now named read c.in-Some.is (room.decoder.fits.value_books class [] named c.args.pass None within) in
    let now = state_of d old true in
    let number = c.in-Some.number in
    let book : get_or d.books.now c.from-in-Some.result c.index-self-from.result ≡ book_of d.books.now number =
    ap (λ n. get_or d.books.now n c.index-self-from.result) c.from-in-Some.ensures ∙ sym (book_found d.books.now number c.index-self-from.result serves.1) in
    record {
      after = c.read_values.ensures.after
          ∙ ap (λ (b : Codebook). fold (after_reading b c.args.vector) now (reading_places r.kind c.first_of.result r.partition_size b.dimensions)) book
          ∙ ap (λ first. fold (after_reading (book_of d.books.now number) c.args.vector) now (reading_places r.kind first r.partition_size (book_of d.books.now number).dimensions)) c.first_of.ensures.first
          ∙ sym (part_is d.books.now r d.size (vectors_of d old.lines.now) classes old.bits.now.left c.args.pass c.args.partition c.args.vector class (Some number)
          (class_read d classes c.args.vector c.args.partition room.decoder)
          (pass_named r class c.args.pass c.index.result.now named within read ∙ c.in-Some.is));
      room = c.read_values.ensures.room;
      parts = c.read_values.ensures.parts;
    }

pub returns-in-None : goal.returns-in-None
returns-in-None c =
    let d = c.args.self.now in
    let r = d.residue.now in
    let room = c.requires.room in
    let old = c.args.workspace.now in
    let classes = old.classes.now in
    let place = class_within d classes c.args.vector c.args.partition room.rows c.requires.vector c.requires.partition in
    let class = get_or classes (c.args.vector * d.partitions + c.args.partition) 0 in
    let named = room.rows.named (c.args.vector * d.partitions + c.args.partition) 0 place in
    let cascades = ap (λ (s : ResidueSetup). s.cascades) c.residue.view_is in
    let read = rw (cascades, c.from.ensures) at c.index.ensures in
    let within : c.args.pass < length (get_or r.cascades class []) = rw (room.decoder.fits.passes class [] named) c.requires.pass in
    let none = leads_none (step_of d) d old room in
    record {
      after = sym (part_is d.books.now r d.size (vectors_of d old.lines.now) classes old.bits.now.left c.args.pass c.args.partition c.args.vector class None
          (class_read d classes c.args.vector c.args.partition room.decoder)
          (pass_named r class c.args.pass c.index.result.now named within read ∙ c.in-None.is));
      room = room;
      parts = none.parts;
    }
