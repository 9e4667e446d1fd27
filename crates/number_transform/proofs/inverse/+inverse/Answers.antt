use Rattle.std.proofs.Common.{◌≡◌, ℕ, ◌<◌, ◌+◌, ◌-◌, ◌/◌, ◌^◌, length, slice_index, get_or, sym, subst, arith}
use Rattle.number_transform.specs.declared.field.TheConstants.{PRIME}
use Rattle.number_transform.specs.Products.{folded}
use Rattle.number_transform.proofs.Halves.{double_from, rooms, front_of, back_of, joined}
use Rattle.number_transform.proofs.Filling.{small_take, small_drop}
use Rattle.number_transform.proofs.inverse.+inverse.Goals as goal

pub bounds-inverses-node : goal.bounds-inverses-node
bounds-inverses-node t c = (rooms c.args.node c.args.levels (length c.args.inverses.now) (omega arith) c.requires.node).here

pub join_halves-requires-clause-size : goal.join_halves-requires-clause-size
join_halves-requires-clause-size t c = omega (arith, double_from c.args.levels (omega arith))

pub inverse-requires : goal.inverse-requires
inverse-requires t c =
    let small : (k : ℕ) → slice_index c.split_at_mut-front.result.0.now k < PRIME =
    subst (λ l. (k : ℕ) → get_or l k 0 < PRIME) (sym c.split_at_mut-front.ensures.front) (small_take PRIME _ c.args.values.now (omega arith) c.requires.values) in (
      omega arith,
      (
        omega arith,
        (
          omega (arith, double_from c.args.levels (omega arith)),
          (small, (omega arith, (rooms c.args.node c.args.levels (length c.args.inverses.now) (omega arith) c.requires.node).front)),
        ),
      ),
    )

pub inverse-requires-2 : goal.inverse-requires-2
inverse-requires-2 t c =
    let small : (k : ℕ) → slice_index c.split_at_mut-front.result.1.now k < PRIME =
    subst (λ l. (k : ℕ) → get_or l k 0 < PRIME) (sym c.split_at_mut-front.ensures.back) (small_drop PRIME _ c.args.values.now c.requires.values) in (
      omega arith,
      (
        omega arith,
        (
          omega (arith, double_from c.args.levels (omega arith)),
          (small, (omega arith, (rooms c.args.node c.args.levels (length c.args.inverses.now) (omega arith) c.requires.node).back)),
        ),
      ),
    )

pub returns-clause-polynomial : goal.returns-clause-polynomial
returns-clause-polynomial t c w v laws given =
    let d = c.args.levels - 1 in
    let xs = c.args.values.now in
    let node = c.args.node in
    let split = c.split_at_mut-front in
    let positive : 0 < c.args.levels = omega arith in
    let twice : 2 ^ c.args.levels ≡ 2 ^ d + 2 ^ d = double_from c.args.levels positive in
    let half : length xs / 2 ≡ 2 ^ d = omega arith in
    let here : node < length c.args.inverses.now = (rooms node c.args.levels (length c.args.inverses.now) positive c.requires.node).here in
    joined w v (slice_index c.args.inverses.now node) c.args.levels node c.inverse.new.values c.inverse-2.new.values c.join_halves.new.front c.join_halves.new.back
    positive (laws.small node) (laws.one node here) (omega arith) (omega arith)
    (c.inverse.ensures.polynomial w (folded (w node) (2 ^ d) v) laws (front_of w c.args.levels node (length xs / 2) v xs _ positive given half split.ensures.front))
    (c.inverse-2.ensures.polynomial w (folded (PRIME - w node) (2 ^ d) v) laws (back_of w c.args.levels node (length xs / 2) v xs _ positive given half split.ensures.back))
    c.join_halves.ensures.front c.join_halves.ensures.back
