use Rattle.std.proofs.Common.{◌≡◌, length, take, ap, ◌∙◌, arith}
use Rattle.model_setup.specs.Vectors.{vector_of}
use Rattle.codebooks.proofs.Fills.{has_room}
use Rattle.codebooks.proofs.FirstValues.{whole}
use Rattle.codebooks.proofs.Layouts.{vectors_more}
use Rattle.codebooks.proofs.lookup.VectorTable.vectors.Goals as goal

pub fill-requires-clause-room : goal.fill-requires-clause-room
fill-requires-clause-room c = has_room c.args.self.now c.args.dimensions c.args.entries c.loop-entry.entry c.requires c.loop-entry-test.true

pub loop-entry-preserved : goal.loop-entry-preserved
loop-entry-preserved c =
    let l = c.loop-entry in
    let d = c.args.dimensions in
    let long : length l.vector ≡ d = l.invariant.long in
    let is_vector : c.fill.new.out ≡ vector_of d c.args.self.now l.entry = c.fill.ensures.vector ∙ ap (λ n. take n (vector_of d c.args.self.now l.entry)) long ∙ whole d c.args.self.now l.entry in
    let kept : length c.fill.new.out ≡ d = omega arith in
    rw c.in_ok-extend_from_slice.ensures.items (record {
      long = kept;
      laid = vectors_more d l.entry c.args.self.now l.vectors.items c.fill.new.out l.invariant.laid kept is_vector;
    })
