use Rattle.std.proofs.Common.{◌≡◌, ◌≤◌, ◌+◌, ◌-◌, ◌*◌, get_or, length, refl, ap, sym, ◌∙◌, arith}
use Rattle.model_setup.specs.Codebook.{Codebook}
use Rattle.model_setup.specs.Codewords.{entry_at}
use Rattle.model_setup.specs.ResidueSetup.{ResidueSetup}
use Rattle.model_setup.specs.ResidueDecoding.{book_of, group_size}
use Rattle.residues.specs.Decoders.{vectors_of}
use Rattle.residues.proofs.Parts.{book_found}
use Rattle.residues.proofs.ClassWords.{row_within, rows_with, word_ends, word_read}
use Rattle.residues.proofs.decoder.Decoder.read_word.Goals as goal

pub returns-in_err-number : goal.returns-in_err-number
returns-in_err-number c =
    let d = c.args.self.now in
    let old = c.args.workspace.now in
    let room = c.requires.room in
    let found : get_or d.books.now c.from.result c.index-self-from.result ≡ book_of d.books.now d.residue.now.class_book =
    ap (λ n. get_or d.books.now n c.index-self-from.result) (c.from.ensures ∙ ap (λ (r : ResidueSetup). r.class_book) c.residue.view_is)
    ∙ sym (book_found d.books.now d.residue.now.class_book c.index-self-from.result room.decoder.fits.class_book.1) in
    rw (c.in_err-number.ensures.finished, c.from_residual.ensures) (record {
      after = word_ends d.books.now d.residue.now d.size (vectors_of d old.lines.now) old.classes.now old.bits.now.left c.args.group c.args.vector
          (ap (λ (b : Codebook). entry_at b.lengths old.bits.now.left) (sym found) ∙ c.in_err-number.ensures.ended);
      room = record { decoder = room.decoder; layout = room.layout; rows = room.rows; values = room.values };
      parts = record { bits = refl; bytes = c.in_err-number.ensures.bytes; lines = refl; line_count = refl };
    })

pub write_word-requires-clause-classwords : goal.write_word-requires-clause-classwords
write_word-requires-clause-classwords c = c.requires.room.decoder.few

pub returns : goal.returns
returns c =
    let d = c.args.self.now in
    let old = c.args.workspace.now in
    let room = c.requires.room in
    let classes = old.classes.now in
    let number = c.in_ok-number.number in
    let start = c.group_partitions-partitions.ensures.start in
    let last : c.group_partitions-partitions.result.end ≤ d.partitions = c.group_partitions-partitions.ensures.within in
    let first = c.group_partitions-partitions.result.start in
    let count = c.group_partitions-partitions.result.end - first in
    let end = c.group_partitions-partitions.ensures.end in
    let many : count ≡ group_size d.partitions d.classwords c.args.group = omega arith in
    let found : get_or d.books.now c.from.result c.index-self-from.result ≡ book_of d.books.now d.residue.now.class_book =
    ap (λ n. get_or d.books.now n c.index-self-from.result) (c.from.ensures ∙ ap (λ (r : ResidueSetup). r.class_book) c.residue.view_is)
    ∙ sym (book_found d.books.now d.residue.now.class_book c.index-self-from.result room.decoder.fits.class_book.1) in
    let base : c.len.result ≡ length d.residue.now.cascades = c.len.ensures ∙ c.residue.inside.cascades.ok.0 ∙ ap (λ (r : ResidueSetup). length r.cascades) c.residue.view_is in
    let row = row_within d classes c.args.vector (first + count) room.rows (omega arith) c.requires.vector in
    let written = rw base at c.write_word.ensures in
    record {
      after = word_read d (vectors_of d old.lines.now) classes c.write_word.new.classes old.bits.now.left c.entry.new.bits.left number c.args.group c.args.vector first count c.len.result room.decoder
          (ap (λ (b : Codebook). entry_at b.lengths old.bits.now.left) (sym found) ∙ c.in_ok-number.ensures.found) c.write_word.ensures base start many;
      room = record {
        decoder = room.decoder;
        layout = room.layout;
        rows = rw written (rows_with d classes (c.args.vector * d.partitions + first) count number room.rows room.decoder.fits.some_class (omega arith));
        values = room.values;
      };
      parts = record { bits = refl; bytes = c.in_ok-number.ensures.bytes; lines = refl; line_count = refl };
    }
