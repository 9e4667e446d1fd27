use Rattle.std.proofs.Common.{◌+◌, ◌*◌, ◌<◌, length, get_or, pos, refl, ◌∙◌, w64, to_z, of_z, arith}
use Rattle.std.proofs.lemmas.List.{length-set}
use Rattle.std.proofs.lemmas.List.Elements.{All-set}
use Rattle.model_fixed.specs.Fixed.{IsWithinLimit}
use Rattle.residues.proofs.Additions.{added_next_of, as_64_bits}
use Rattle.residues.proofs.adding.add_to_line.Goals as goal

pub loop-j-preserved : goal.loop-j-preserved
loop-j-preserved c =
    let now = c.loop-j.line in
    let terms = c.args.values.now in
    let place = c.args.run.first + c.loop-j.j * c.args.run.stride in
    let r = c.limited_sum.result in
    let reads : c.loop-j.j < length terms = omega arith in
    let within : place < length now = omega (arith, c.requires.within c.loop-j.j c.loop-j-test.true) in
    let small : IsWithinLimit (to_z w64 (of_z w64 r)) = rw (as_64_bits r c.limited_sum.ensures.small) c.limited_sum.ensures.small in
    record {
      added = added_next_of c.args.line.now terms now c.args.run.first c.args.run.stride c.loop-j.j r c.loop-j.invariant.added reads
          (get_or now place (pos 0)) (get_or terms c.loop-j.j (pos 0)) (c.loop-j.invariant.small place (pos 0) within) (c.requires.values c.loop-j.j (pos 0) reads)
          c.limited_sum.ensures.small refl refl c.limited_sum.ensures.sum;
      size = length-set now place (to_z w64 (of_z w64 r)) ∙ c.loop-j.invariant.size;
      small = All-set IsWithinLimit now place (to_z w64 (of_z w64 r)) small c.loop-j.invariant.small;
    }
