use Rattle.std.proofs.Common.{arith, ◌≡◌, ap, ◌∙◌, length}
use Rattle.residues.specs.Layout.{line_size}
use Rattle.model_setup.specs.ResidueDecoding.{residue_vectors}
use Rattle.std.proofs.lemmas.Grind.{common_steps}
use Rattle.block_decoding.proofs.ReadLines.{by_lines}
use Rattle.block_decoding.proofs.submap_residues.read_lines.Goals as goal

pub returns-clause-read : goal.returns-clause-read
returns-clause-read c =
    let books = c.args.books.now in
    let residue = c.args.residue.now in
    let wanted = c.args.wanted.now in
    let lines = c.deref_mut.ensures.value ∙ c.in_ok-lines.ensures.items in
    let decoded = c.in_ok-decode.ensures.decoded ∙ ap (λ xs. residue_vectors books residue (line_size xs) wanted c.args.bits.now.left) lines in
    let whole = decoded ∙ by_lines books residue c.args.size wanted c.args.bits.now.left in
    let count : length c.decode.new.vectors ≡ length c.in_ok-lines.lines.items = c.decode.auto.vectors ∙ ap length c.deref_mut.ensures.value in
    grind (arith, common_steps, whole, count)
