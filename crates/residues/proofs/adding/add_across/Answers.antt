use Rattle.std.proofs.Common.{◌≡◌, ◌+◌, ◌*◌, ◌<◌, [], length, get_or, set, pos, refl, ap, ◌∙◌, w64, to_z, of_z, arith}
use Rattle.std.proofs.lemmas.List.{length-set, get_or_default}
use Rattle.model_fixed.specs.Fixed.{IsWithinLimit}
use Rattle.residues.specs.Layout.{AreLines}
use Rattle.residues.proofs.Additions.{as_64_bits}
use Rattle.residues.proofs.Crossings.{row_within, written, stay_lines, added_across}
use Rattle.residues.proofs.adding.add_across.Goals as goal
use Rattle.residues.proofs.adding.add_across.Goals.{then-channel-channels, else-channel-channels}

pub loop-j-preserved : goal.loop-j-preserved
loop-j-preserved c =
    let size = c.args.size in
    let lines = c.loop-j.lines in
    let channel = c.loop-j.channel in
    let place = c.loop-j.place in
    let j = c.loop-j.j in
    let items = c.items_mut-line.result.now in
    let terms = c.args.values.now in
    let r = c.limited_sum.result in
    let v = to_z w64 (of_z w64 r) in
    let are : AreLines size lines = c.loop-j.invariant.lines in
    let at : place * length lines + channel ≡ c.args.first + j = rw c.loop-j.invariant.count c.loop-j.invariant.place in
    let k : channel < length lines = omega arith in
    let before : c.args.first + j < size * length lines = rw c.loop-j.invariant.count (omega arith) in
    let h : place < size = row_within place (length lines) channel size (c.args.first + j) at before in
    let reads : j < length terms = omega arith in
    let line_is : items ≡ get_or lines channel [] = c.items_mut-line.ensures.value ∙ get_or_default lines channel c.index-lines-channel.result [] k in
    let in_line : place < length (get_or lines channel []) = omega (arith, are.sizes channel [] k) in
    let small : IsWithinLimit v = rw (as_64_bits r c.limited_sum.ensures.small) c.limited_sum.ensures.small in
    let small_value : IsWithinLimit (get_or items place (pos 0)) = rw line_is (are.small channel [] k place (pos 0) in_line) in
    rw (written size lines channel place c.index-lines-channel.result items v are k h c.items_mut-line.ensures.value) (record {
      added = added_across size _ terms lines c.args.first j channel place (get_or items place (pos 0)) (get_or terms j (pos 0)) r are k h c.loop-j.invariant.added reads at
          small_value (c.requires.values j (pos 0) reads) c.limited_sum.ensures.small (ap (λ xs. get_or xs place (pos 0)) line_is) refl c.limited_sum.ensures.sum;
      lines = stay_lines size lines channel place c.index-lines-channel.result items v are k h c.items_mut-line.ensures.value small;
      count = length-set lines channel (set (get_or lines channel []) place v) ∙ c.loop-j.invariant.count;
      channel = elim c.if-channel-channels.branch [ then-channel-channels w ↦ omega arith | else-channel-channels w ↦ omega arith ];
      place = elim c.if-channel-channels.branch [
        | then-channel-channels w ↦ rw (w.place-is, w.channel-is) (omega arith)
        | else-channel-channels w ↦ rw (w.place-is, w.channel-is) (omega arith)
      ];
    })
