use Rattle.std.proofs.Common.{arith, rules, List, ℤ, Bool, ◌≡◌, ◌⊎◌, ◌*◌, min, length, refl, ap, sym, ◌∙◌}
use Rattle.std.specs.Prelude.{is_some}
use Rattle.std.specs.List.{All}
use Rattle.model_setup.specs.declared.residue.ResidueKind.TheVariants.{Spread, InRow, Interleaved}
use Rattle.model_setup.specs.ResidueSetup.{ResidueSetup}
use Rattle.model_setup.specs.ResidueDecoding.{residue_vectors}
use Rattle.residues.specs.Layout.{line_size}
use Rattle.residues.specs.Decoders.{state_of, vectors_of}
use Rattle.residues.proofs.Begins.{begins_apart, begins_together, begins_unread}
use Rattle.residues.proofs.Whole.{decoder_decodes, lines_decoded, one_decoded, alike_up_to}
use Rattle.residues.proofs.residue.Residue.decode.Goals as goal
use Rattle.residues.proofs.residue.Residue.decode.Goals.{in-Interleaved, in-Spread}

pub read_passes-ended-requires : goal.read_passes-ended-requires
read_passes-ended-requires c =
    let d = c.decoder-decoder.result in
    let is = c.decoder-decoder.ensures in
    let lines = c.args.vectors.now in
    let kind = ap (λ (r : ResidueSetup). r.kind) (c.self.view_is ∙ sym is.residue) in
    let size = is.line_size ∙ c.size_of_line-line_size.ensures in
    let sizes : All (λ line. length line ≡ d.line_size) lines = rw size c.requires.sizes in
    record {
      room = record {
        decoder = is.decoder;
        layout = elim c.match-self.branch [
          | in-Interleaved w ↦
              let one : length d.wanted.now ≡ 1 = rw (is.wanted, w.size-is, w.as_slice.ensures) refl in
              let span = rw (w.size-is, w.saturating_mul.ensures, ← is.line_size) at is.size in
              begins_together d lines 18446744073709551615 (rw kind at w.in-Interleaved.is) sizes c.requires.zero span one
          | in-Spread w ↦
              let same : d.size ≡ d.line_size = rw (w.size-is, ← is.line_size) at is.size in
              let count : length d.wanted.now ≡ length lines = rw (is.wanted, w.size-is) c.requires.wanted in
              begins_apart d lines (rw kind at w.in-Spread.is) sizes c.requires.zero same count
        ];
        rows = rw c.deref_mut.ensures.value (begins_unread d c.in_ok-memory.memory.classes.items is.decoder.fits.some_class c.in_ok-memory.ensures.classes);
        values = omega (arith, c.in_ok-memory.ensures.values);
      };
    }

pub returns-clause-decoded : goal.returns-clause-decoded
returns-clause-decoded c =
    let d = c.decoder-decoder.result in
    let is = c.decoder-decoder.ensures in
    let lines = c.args.vectors.now in
    let new = c.read_passes-ended.new.workspace in
    let kind = ap (λ (r : ResidueSetup). r.kind) c.self.view_is in
    let size = line_size lines in
    let unread = c.deref_mut.ensures.value ∙ c.in_ok-memory.ensures.classes in
    let after = decoder_decodes d (vectors_of d lines) c.deref_mut.result.now c.args.bits.now.left (state_of d new (is_some c.read_passes-ended.result)) is.decoder unread c.read_passes-ended.ensures.after in
    let lines_same = c.read_passes-ended.ensures.parts.lines in
    let bits_same = c.read_passes-ended.ensures.parts.bits in
    let shown : ◌≡◌ {A = List (List ℤ) × List Bool} (new.lines.now, new.bits.now.left) (residue_vectors c.args.books.now c.args.self.now size c.args.wanted.now c.args.bits.now.left) =
    elim c.match-self.branch [
      | in-Interleaved w ↦
          let here = rw (is.residue, is.books, is.wanted, is.line_size, is.size, w.size-is, w.as_slice.ensures, c.is_any.ensures, c.size_of_line-line_size.ensures) at after in
          let one : c.args.self.now.kind ≡ Interleaved = rw kind at w.in-Interleaved.is in
          let span : w.saturating_mul.result ≡ min (size * length c.args.wanted.now) 18446744073709551615 =
          w.saturating_mul.ensures ∙ ap (λ n. min (n * length lines) 18446744073709551615) c.size_of_line-line_size.ensures ∙ ap (λ n. min (size * n) 18446744073709551615) (sym c.requires.wanted) in
          let alike = alike_up_to c.args.books.now c.args.self.now w.saturating_mul.result (size * length c.args.wanted.now) c.requires.books span in
          let sizes = rw (is.line_size, c.size_of_line-line_size.ensures) at c.read_passes-ended.ensures.room.layout.are_lines.sizes in
          one_decoded c.args.books.now c.args.self.now size w.saturating_mul.result c.args.wanted.now c.args.bits.now.left new.bits.now.left lines new.lines.now new.classes.now (is_some c.read_passes-ended.result)
          one alike c.requires.sizes c.requires.zero c.requires.wanted sizes c.read_passes-ended.ensures.parts.line_count here
      | in-Spread w ↦
          let here = rw (is.residue, is.books, is.wanted, is.line_size, is.size, w.size-is, c.size_of_line-line_size.ensures) at after in
          let kinds : (c.args.self.now.kind ≡ Spread) ⊎ (c.args.self.now.kind ≡ InRow) = rw kind at w.in-Spread.is in
          lines_decoded c.args.books.now c.args.self.now size c.args.wanted.now c.args.bits.now.left new.bits.now.left lines new.lines.now new.classes.now (is_some c.read_passes-ended.result) kinds c.requires.sizes c.requires.zero c.requires.wanted here
    ] in
    search rules

pub returns-clause-sizes : goal.returns-clause-sizes
returns-clause-sizes c =
    let lines_same = c.read_passes-ended.ensures.parts.lines in
    let sizes : All (λ line. length line ≡ line_size c.args.vectors.now) c.read_passes-ended.new.workspace.lines.now = rw (c.decoder-decoder.ensures.line_size, c.size_of_line-line_size.ensures) at c.read_passes-ended.ensures.room.layout.are_lines.sizes in
    search rules
