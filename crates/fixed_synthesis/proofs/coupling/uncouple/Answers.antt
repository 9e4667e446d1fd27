use Rattle.std.proofs.Common.{◌<◌, ◌^◌, sym, subst, ℕ, pos, length, get_or, arith}
use Rattle.std.proofs.lemmas.List.Elements.{All-from_get_or}
use Rattle.std.proofs.lemmas.List.FromFn.{fill_by_all}
use Rattle.model_fixed.specs.Fixed.{IsWithinLimit}
use Rattle.model_synthesis.specs.Coupling.{uncoupled, first_of, second_of, first_channel, second_channel}
use Rattle.fixed_synthesis.proofs.Bins.{bin_is}
use Rattle.fixed_synthesis.proofs.Filled.{set_more, set_rest, clamp_small}
use Rattle.fixed_synthesis.proofs.coupling.uncouple.Goals as goal

pub loop-k-preserved : goal.loop-k-preserved
loop-k-preserved c =
    let k = c.loop-k.k in
    let m = λ (j : ℕ). get_or c.args.magnitude.now j (pos 0) in
    let a = λ (j : ℕ). get_or c.args.angle.now j (pos 0) in
    let within : c.loop-k.k < length c.args.magnitude.now = omega arith in
    let within' : c.loop-k.k < length c.args.angle.now = omega arith in
    let x = get_or c.loop-k.magnitude k (pos 0) in
    let y = get_or c.loop-k.angle k (pos 0) in
    let is_m = c.loop-k.invariant.magnitudes k (omega arith) in
    let is_a = c.loop-k.invariant.angles k (omega arith) in
    let small_m = c.requires.magnitudes k (pos 0) within in
    let small_a = c.requires.angles k (pos 0) within' in
    record {
      first = set_more (λ j. first_of (m j) (a j)) c.loop-k.magnitude k _ (omega arith)
          (bin_is first_of (m k) (a k) x y c.taken_apart-first.result.0 small_m small_a (clamp_small (2 ^ 32) (uncoupled (m k) (a k)).0) is_m is_a c.taken_apart-first.ensures.first) c.loop-k.invariant.first;
      second = set_more (λ j. second_of (m j) (a j)) c.loop-k.angle k _ (omega arith)
          (bin_is second_of (m k) (a k) x y c.taken_apart-first.result.1 small_m small_a (clamp_small (2 ^ 32) (uncoupled (m k) (a k)).1) is_m is_a c.taken_apart-first.ensures.second) c.loop-k.invariant.second;
      magnitudes = set_rest m c.loop-k.magnitude k _ c.loop-k.invariant.magnitudes;
      angles = set_rest a c.loop-k.angle k _ c.loop-k.invariant.angles;
    }

pub returns-clause-first : goal.returns-clause-first
unfolding first_channel
returns-clause-first c =
    fill_by_all (λ j. first_of (get_or c.args.magnitude.now j (pos 0)) (get_or c.args.angle.now j (pos 0))) c.loop-k.magnitude (length c.args.magnitude.now) (pos 0) c.loop-k.auto.magnitude
    (λ j h. c.loop-k.invariant.first j (omega arith))

pub returns-clause-second : goal.returns-clause-second
unfolding second_channel
returns-clause-second c =
    fill_by_all (λ j. second_of (get_or c.args.magnitude.now j (pos 0)) (get_or c.args.angle.now j (pos 0))) c.loop-k.angle (length c.args.magnitude.now) (pos 0) (omega arith)
    (λ j h. c.loop-k.invariant.second j (omega arith))

pub returns-clause-first_small : goal.returns-clause-first_small
returns-clause-first_small c =
    All-from_get_or IsWithinLimit c.loop-k.magnitude (pos 0)
    (λ j h. subst IsWithinLimit (sym (c.loop-k.invariant.first j (omega arith)))
    (clamp_small (2 ^ 32) (uncoupled (get_or c.args.magnitude.now j (pos 0)) (get_or c.args.angle.now j (pos 0))).0))

pub returns-clause-second_small : goal.returns-clause-second_small
returns-clause-second_small c =
    All-from_get_or IsWithinLimit c.loop-k.angle (pos 0)
    (λ j h. subst IsWithinLimit (sym (c.loop-k.invariant.second j (omega arith)))
    (clamp_small (2 ^ 32) (uncoupled (get_or c.args.magnitude.now j (pos 0)) (get_or c.args.angle.now j (pos 0))).1))
