use Rattle.std.proofs.Common.{List, subst, rules}
use Rattle.std.proofs.lemmas.List.Sorted.{IsNonDecreasingBy-from_sort_by_key, length_permutation}
use Rattle.std.specs.List.Sorted.{IsPermutation}
use Rattle.floor_one.specs.declared.points.Position.{Position}
use Rattle.floor_one.specs.Points.{positions_of}
use Rattle.floor_one.proofs.Ordered.{refill_all, in_order_from}
use Rattle.floor_one.proofs.points.in_order.Goals as goal

pub returns : goal.returns
returns c =
    let old = c.positions-positions.result.items in
    let sorted = c.sort_unstable_by_key.new.self in
    let s = c.sort_unstable_by_key.ensures in
    let moved : IsPermutation old sorted = subst (λ (ps : List Position). IsPermutation ps sorted) c.as_mut_slice.ensures.value s.permutation in
    let whole : IsPermutation (positions_of c.args.x_values.now) sorted = subst (λ (ps : List Position). IsPermutation ps sorted) c.positions-positions.ensures moved in
    let risen = IsNonDecreasingBy-from_sort_by_key (λ (position : Position). position.x) sorted s.sorted (λ a r q k. search rules) in
    rw (refill_all old sorted (length_permutation old sorted moved)) (in_order_from c.args.x_values.now sorted c.requires whole risen)
