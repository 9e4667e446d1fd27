use Rattle.std.proofs.Common.{rules, arith, ◌≡◌, ◌*◌, ◌<◌, length, map, take, drop, get_or, ap, ◌∙◌}
use Rattle.std.specs.List.{range_with_len}
use Rattle.block_decoding.proofs.EachChannel.{value_of, value_is, halves_are, next_of, one_more, front_of, back_of}
use Rattle.block_decoding.proofs.channels.synthesize.Goals as goal

pub loop-channel-preserved : goal.loop-channel-preserved
loop-channel-preserved c =
    let size = c.args.size in
    let k = c.loop-channel.channel in
    let tables = c.args.constants.now in
    let many : c.loop-channel.channel < length c.args.curves.now = omega (arith, c.loop-channel-test.true, c.loop-channel.auto.channel-end) in
    let few : c.loop-channel.channel < length c.args.residues.now = omega (arith, c.requires.count) in
    let residue : c.items-residue.result.now ≡ get_or c.args.residues.now c.loop-channel.channel c.items-residue.result.now = search rules in
    let bins : length c.write_spectrum.new.out ≡ c.args.size = c.write_spectrum.auto.out ∙ c.loop-channel.invariant.spectrum in
    let made : c.write_values.new.out ≡ value_of tables c.args.shape size c.args.residues.now c.args.curves.now k =
    value_is tables c.args.shape size k c.args.residues.now c.args.curves.now c.items-residue.result.now c.index-curves-channel.result c.write_spectrum.new.out c.write_values.new.out few many residue c.index-curves-channel.is
    c.write_spectrum.ensures.spectrum bins c.write_values.ensures.values in
    let whole : length c.write_values.new.out ≡ 2 * c.args.size = c.write_values.auto.out ∙ c.loop-channel.invariant.values in
    let first : c.of.result ≡ take c.args.size c.write_values.new.out = search rules in
    let second : c.of-in-loop-channel.result ≡ drop c.args.size c.write_values.new.out = search rules in
    let value = value_of tables c.args.shape size c.args.residues.now c.args.curves.now in
    record {
      left = c.in_ok-push.ensures.items ∙ next_of (λ j. take size (value j)) k c.loop-channel.left.items c.of.result c.loop-channel.invariant.left (first ∙ ap (take size) made);
      right = c.in_ok-push-2.ensures.items ∙ next_of (λ j. drop size (value j)) k c.loop-channel.right.items c.of-in-loop-channel.result c.loop-channel.invariant.right (second ∙ ap (drop size) made);
      spectrum = bins;
      values = whole;
      left_half = rw c.in_ok-push.ensures.items (one_more k size c.loop-channel.left.items c.of.result c.loop-channel.invariant.left_half (front_of size c.write_values.new.out c.of.result whole c.write_values.ensures.small first));
      right_half = rw c.in_ok-push-2.ensures.items (one_more k size c.loop-channel.right.items c.of-in-loop-channel.result c.loop-channel.invariant.right_half (back_of size c.write_values.new.out c.of-in-loop-channel.result whole c.write_values.ensures.small second));
    }

pub returns-clause-left : goal.returns-clause-left
returns-clause-left c =
    let size = c.args.size in
    let end : c.loop-channel.channel ≡ length c.args.curves.now = omega (arith, c.loop-channel-test.false, c.loop-channel.auto.channel-end) in
    c.of-2.ensures ∙ (c.loop-channel.invariant.left
    ∙ (ap (λ n. map (λ k. take size (value_of c.args.constants.now c.args.shape size c.args.residues.now c.args.curves.now k)) (range_with_len 0 n)) end
    ∙ halves_are c.args.constants.now c.args.shape size c.args.residues.now c.args.curves.now (take size)))

pub returns-clause-right : goal.returns-clause-right
returns-clause-right c =
    let size = c.args.size in
    let end : c.loop-channel.channel ≡ length c.args.curves.now = omega (arith, c.loop-channel-test.false, c.loop-channel.auto.channel-end) in
    c.of-3.ensures ∙ (c.loop-channel.invariant.right
    ∙ (ap (λ n. map (λ k. drop size (value_of c.args.constants.now c.args.shape size c.args.residues.now c.args.curves.now k)) (range_with_len 0 n)) end
    ∙ halves_are c.args.constants.now c.args.shape size c.args.residues.now c.args.curves.now (drop size)))
