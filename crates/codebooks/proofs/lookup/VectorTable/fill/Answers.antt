use Rattle.std.proofs.Common.{◌≡◌, length, ap, sym, ◌∙◌}
use Rattle.model_setup.specs.declared.book.LookupKind.TheVariants.{Lattice}
use Rattle.model_setup.specs.Codebook.{Lookup}
use Rattle.codebooks.proofs.SmallVectors.{vector_small}
use Rattle.codebooks.proofs.FirstValues.{lattice_first_values}
use Rattle.codebooks.proofs.lookup.VectorTable.fill.Goals as goal

pub returns-in-Lattice-clause-vector : goal.returns-in-Lattice-clause-vector
returns-in-Lattice-clause-vector c =
    let s = c.args.self.now in
    let kind : s.kind ≡ Lattice = ap (λ (l : Lookup). l.kind) (sym c.self.view_is) ∙ c.in-Lattice.is in
    c.fill_by_digits.ensures ∙ lattice_first_values s c.args.dimensions c.args.entry (length c.args.out.now) kind c.requires.front

pub returns-in-Lattice-clause-small : goal.returns-in-Lattice-clause-small
returns-in-Lattice-clause-small c = rw (returns-in-Lattice-clause-vector c) (vector_small c.args.dimensions c.args.self.now c.args.entry (length c.args.out.now) c.requires.front)

pub returns-in-Tessellation-clause-small : goal.returns-in-Tessellation-clause-small
returns-in-Tessellation-clause-small c = rw c.fill_by_own.ensures (vector_small c.args.dimensions c.args.self.now c.args.entry (length c.args.out.now) c.requires.front)
