use Rattle.std.proofs.Common.{◌≡◌, ◌<◌, ◌+◌, ◌-◌, ◌*◌, ◌/◌, ◌^◌, ◌++◌, ◌∙◌, length, slice_index, sym, ap, subst, suc, arith}
use Rattle.number_transform.specs.declared.field.TheConstants.{PRIME}
use Rattle.number_transform.specs.Products.{folded}
use Rattle.number_transform.specs.Remainders.{remainders}
use Rattle.number_transform.proofs.RemainderLaws.{remainders_same}
use Rattle.number_transform.proofs.Halves.{double_from, rooms, folded_parts}
use Rattle.number_transform.proofs.forward.+forward.Goals as goal

pub bounds-roots-node : goal.bounds-roots-node
bounds-roots-node t c = (rooms c.args.node c.args.levels (length c.args.roots.now) (omega arith) c.requires.node).here

pub fold_halves-requires-clause-size : goal.fold_halves-requires-clause-size
fold_halves-requires-clause-size t c = omega (arith, double_from c.args.levels (omega arith))

pub forward-requires : goal.forward-requires
forward-requires t c = (
  omega arith,
  (
    omega arith,
    (
      omega (arith, double_from c.args.levels (omega arith)),
      (c.fold_halves.ensures.small_front, ((rooms c.args.node c.args.levels (length c.args.roots.now) (omega arith) c.requires.node).front, c.requires.roots)),
    ),
  ),
)

pub forward-requires-2 : goal.forward-requires-2
forward-requires-2 t c = (
  omega arith,
  (
    omega arith,
    (
      omega (arith, double_from c.args.levels (omega arith)),
      (c.fold_halves.ensures.small_back, ((rooms c.args.node c.args.levels (length c.args.roots.now) (omega arith) c.requires.node).back, c.requires.roots)),
    ),
  ),
)

pub returns-clause-remainders : goal.returns-clause-remainders
returns-clause-remainders t c =
    let d = c.args.levels - 1 in
    let xs = c.args.values.now in
    let w = slice_index c.args.roots.now in
    let node = c.args.node in
    let split = c.split_at_mut-front in
    let positive : 0 < c.args.levels = omega arith in
    let twice : 2 ^ c.args.levels ≡ 2 ^ d + 2 ^ d = double_from c.args.levels positive in
    let half : length xs / 2 ≡ 2 ^ d = omega arith in
    let level : c.args.levels ≡ suc d = omega arith in
    let front : c.forward.new.values ≡ remainders w d (2 * node) (folded (w node) (2 ^ d) (slice_index xs)) =
    c.forward.ensures.remainders ∙ remainders_same w d (2 * node) _ _ (λ k h.
    folded_parts (w node) (2 ^ d) (length xs / 2) xs split.result.0.now split.result.1.now k _ half split.ensures.front split.ensures.back h (c.fold_halves.ensures.front k (omega arith))) in
    let back : c.forward-2.new.values ≡ remainders w d (2 * node + 1) (folded (PRIME - w node) (2 ^ d) (slice_index xs)) =
    c.forward-2.ensures.remainders ∙ remainders_same w d (2 * node + 1) _ _ (λ k h.
    folded_parts (PRIME - w node) (2 ^ d) (length xs / 2) xs split.result.0.now split.result.1.now k _ half split.ensures.front split.ensures.back h (c.fold_halves.ensures.back k (omega arith))) in
    subst (λ l. c.forward.new.values ++ c.forward-2.new.values ≡ remainders w l node (slice_index xs)) (sym level)
    (ap (λ l. l ++ c.forward-2.new.values) front ∙ ap (λ l. remainders w d (2 * node) (folded (w node) (2 ^ d) (slice_index xs)) ++ l) back)
