use Rattle.std.proofs.Common.{◌≡◌, ◌∙◌, ◌∷◌, [], ap, ◌≤◌, ◌^◌, ◌++◌, ℤ, length, drop, unsigned_abs, arith, w32, w64, to_z, of_z}
use Rattle.std.proofs.lemmas.Grind.{common_steps}
use Rattle.std.specs.List.{All}
use Rattle.std.proofs.lemmas.Int.{ints}
use Rattle.std.proofs.lemmas.List.Elements.{All-push, All-take, All-append, All-drop}
use Rattle.model_setup.specs.declared.floor.Final.{Final}
use Rattle.model_setup.specs.FloorCurve.{final_value}
use Rattle.floor_one.specs.Curves.{values_in}
use Rattle.floor_one.proofs.NextPoint.{values_behind, final_before}
use Rattle.floor_one.proofs.finals.push_next.Goals as goal

fits : (v : ℤ) → unsigned_abs v ≤ 2 ^ 24 → unsigned_abs (to_z w32 (of_z w32 (to_z w64 (of_z w64 v)))) ≤ 2 ^ 24
fits v h = omega (arith, ints)

kept : (v : ℤ) → unsigned_abs v ≤ 2 ^ 24 → to_z w32 (of_z w32 (to_z w64 (of_z w64 v))) ≡ v
kept v h = omega (arith, ints)

kept_long : (v : ℤ) → unsigned_abs v ≤ 2 ^ 24 → to_z w64 (of_z w64 v) ≡ v
kept_long v h = omega (arith, ints)

pub returns-clause-small : goal.returns-clause-small
returns-clause-small c =
    let P : Final → Type 0 = λ (f : Final). unsigned_abs f.value ≤ 2 ^ 24 in
    let before = c.args.finals.now.items in
    let flagged = c.flag_neighbours.new.finals in
    let before_small : All P c.deref_mut.result.now = rw c.deref_mut.ensures.value c.requires.small in
    let small = All-append P flagged (drop (length flagged) before) (c.flag_neighbours.ensures.small before_small) (All-drop P (length flagged) before c.requires.small) in
    rw c.push.ensures.items (All-push P _ _ (All-take P (length before) (flagged ++ drop (length flagged) before) small) (fits c.final_value.result c.final_value.ensures.small))

pub returns-clause-next : goal.returns-clause-next
returns-clause-next c =
    let old = c.args.finals.now.items in
    let flagged = c.flag_neighbours.new.finals in
    let new = c.push.new.self.items in
    let lent = c.deref_mut.ensures.value in
    let same = rw lent at c.flag_neighbours.ensures.values in
    let seen : c.deref.result.now ≡ old = c.deref.ensures.0 in
    let height = rw (seen, c.len.ensures.value) at c.predicted-height.ensures.value in
    let flags = rw lent at c.flag_neighbours.ensures.flags in
    record {
      count = grind (arith, common_steps);
      values = values_behind old flagged new _ same c.push.ensures.items ∙ ap (λ v. values_in old ++ v ∷ []) (kept c.final_value.result c.final_value.ensures.small ∙ c.final_value.ensures.value ∙ ap (λ h. final_value c.args.range h c.args.y) (kept_long c.predicted-height.result c.predicted-height.ensures.small ∙ height));
      before = λ k within. ap (λ (f : Final). f.flagged) (final_before old flagged new _ same c.push.ensures.items k within) ∙ flags k within;
      flag = grind (arith, common_steps);
    }
