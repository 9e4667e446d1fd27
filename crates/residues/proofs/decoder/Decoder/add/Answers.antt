use Rattle.std.proofs.Common.{◌≡◌, ◌⊎◌, ◌+◌, ◌-◌, ◌*◌, ◌<◌, length, ap, sym, refl, ◌∙◌, arith}
use Rattle.model_setup.specs.declared.residue.ResidueKind.TheVariants.{Spread, InRow, Interleaved}
use Rattle.model_setup.specs.ResidueSetup.{ResidueSetup}
use Rattle.residues.specs.Layout.{run_places}
use Rattle.residues.specs.Decoders.{vector_size, vector_count}
use Rattle.residues.proofs.Layouts.{line_added, across_added, lines_with, count_is_lines}
use Rattle.residues.proofs.decoder.Decoder.add.Goals as goal

pub add_across-requires-clause-within : goal.add_across-requires-clause-within
add_across-requires-clause-within c =
    let d = c.args.self.now in
    let e : d.residue.now.kind ≡ Interleaved = sym (ap (λ (r : ResidueSetup). r.kind) c.residue.view_is) ∙ c.in-Interleaved.is in
    let all = c.requires.lines.size in
    let size : vector_size d.residue.now.kind (length c.args.lines.now) d.line_size ≡ d.line_size * length c.args.lines.now = ap (λ k. vector_size k (length c.args.lines.now) d.line_size) e in
    let run = c.args.run in
    let some : 0 < run.count = c.requires.some in
    let stride : run.stride ≡ 1 = c.requires.interleaved e in
    let last : run.count - 1 < run.count = omega arith in
    let within : run.first + (run.count - 1) * 1 < d.size = rw stride at (c.requires.within (run.count - 1) last) in
    omega arith

pub returns-in-Interleaved-clause-added : goal.returns-in-Interleaved-clause-added
returns-in-Interleaved-clause-added c =
    let d = c.args.self.now in
    let run = c.args.run in
    let e : d.residue.now.kind ≡ Interleaved = sym (ap (λ (r : ResidueSetup). r.kind) c.residue.view_is) ∙ c.in-Interleaved.is in
    let one : length d.wanted.now ≡ 1 = c.requires.lines.wanted ∙ ap (λ k. vector_count k (length c.args.lines.now)) e in
    across_added d.residue.now.kind d.line_size c.args.lines.now c.add_across.new.lines c.args.vector (run_places run.first 1 run.count) (run_places run.first run.stride run.count) c.args.values.now e (omega arith) c.add_across.ensures.added
    (ap (λ s. run_places run.first s run.count) (sym (c.requires.interleaved e)))

pub returns-in-Spread : goal.returns-in-Spread
returns-in-Spread c =
    let d = c.args.self.now in
    let run = c.args.run in
    let kind : c.residue.inside.kind ≡ d.residue.now.kind = ap (λ (r : ResidueSetup). r.kind) c.residue.view_is in
    let kinds : (d.residue.now.kind ≡ Spread) ⊎ (d.residue.now.kind ≡ InRow) = rw kind at c.in-Spread.is in
    let within : c.args.vector < length c.args.lines.now = rw (← count_is_lines d.residue.now.kind (length c.args.lines.now) kinds, ← c.requires.lines.wanted) c.requires.vector in
    let size : length c.add_to_line.new.line ≡ d.line_size = c.add_to_line.ensures.size ∙ c.requires.lines.are_lines.sizes c.args.vector c.index-lines-vector.result within in
    record {
      added = line_added d.residue.now.kind d.line_size c.args.lines.now c.args.vector c.add_to_line.new.line c.index-lines-vector.result _ _ c.args.values.now kinds within c.add_to_line.ensures.added refl;
      lines = lines_with d c.args.lines.now c.args.vector c.add_to_line.new.line c.requires.lines size c.add_to_line.ensures.small;
    }
