use Rattle.std.proofs.Common.{◌≡◌, ◌∙◌, ◌<◌, ◌≤◌, ◌≢◌, ℕ, sym, ap, length, List, ℤ, arith}
use Rattle.std.proofs.lemmas.List.{set_comm}
use Rattle.model_synthesis.specs.Coupling.{first_channel, second_channel, channel}
use Rattle.fixed_synthesis.proofs.Channels.{both_set}
use Rattle.fixed_synthesis.proofs.coupling.uncouple_two.Goals as goal

below : (m a : ℕ) → a ≤ m → (m ≡ a → ⊥) → a < m
below m a h apart = omega arith

pub returns-then-magnitude-angle : goal.returns-then-magnitude-angle
returns-then-magnitude-angle c =
    let split = c.split_at_mut-front.ensures in
    let a : c.items_mut.result.now ≡ c.index-front-magnitude.result = c.items_mut.ensures.value ∙ sym c.index-front-magnitude.is in
    let b : c.items_mut-then-magnitude-angle.result.now ≡ c.index-back-0.result = c.items_mut-then-magnitude-angle.ensures.value ∙ sym c.index-back-0.is in
    both_set first_channel second_channel c.args.channels.now c.split_at_mut-front.result.0.now c.split_at_mut-front.result.1.now c.args.magnitude c.args.angle
    c.index-front-magnitude.result c.index-back-0.result c.uncouple.new.magnitude c.uncouple.new.angle
    c.if-magnitude-angle.true c.requires.angle split.front split.back c.index-front-magnitude.is c.index-back-0.is
    (c.uncouple.ensures.first ∙ (ap (λ (x : List ℤ). first_channel x c.items_mut-then-magnitude-angle.result.now) a ∙ ap (first_channel c.index-front-magnitude.result) b))
    (c.uncouple.ensures.second ∙ (ap (λ (x : List ℤ). second_channel x c.items_mut-then-magnitude-angle.result.now) a ∙ ap (second_channel c.index-front-magnitude.result) b))
    (c.uncouple.auto.magnitude ∙ ap length a) (c.uncouple.auto.angle ∙ ap length b)

pub returns-else-magnitude-angle : goal.returns-else-magnitude-angle
returns-else-magnitude-angle c =
    let split = c.split_at_mut-front-else-magnitude-angle.ensures in
    let above : c.args.angle < c.args.magnitude = below c.args.magnitude c.args.angle c.if-magnitude-angle.false c.requires.apart in
    let other : c.args.angle ≢ c.args.magnitude = omega arith in
    let a : c.items_mut-else-magnitude-angle.result.now ≡ c.index-back-0-else-magnitude-angle.result = c.items_mut-else-magnitude-angle.ensures.value ∙ sym c.index-back-0-else-magnitude-angle.is in
    let b : c.items_mut-else-magnitude-angle-2.result.now ≡ c.index-front-angle.result = c.items_mut-else-magnitude-angle-2.ensures.value ∙ sym c.index-front-angle.is in
    both_set (λ x y. second_channel y x) (λ x y. first_channel y x) c.args.channels.now c.split_at_mut-front-else-magnitude-angle.result.0.now c.split_at_mut-front-else-magnitude-angle.result.1.now c.args.angle c.args.magnitude
    c.index-front-angle.result c.index-back-0-else-magnitude-angle.result c.uncouple-else-magnitude-angle.new.angle c.uncouple-else-magnitude-angle.new.magnitude
    above c.requires.magnitude split.front split.back c.index-front-angle.is c.index-back-0-else-magnitude-angle.is
    (c.uncouple-else-magnitude-angle.ensures.second ∙ (ap (λ (x : List ℤ). second_channel x c.items_mut-else-magnitude-angle-2.result.now) a ∙ ap (second_channel c.index-back-0-else-magnitude-angle.result) b))
    (c.uncouple-else-magnitude-angle.ensures.first ∙ (ap (λ (x : List ℤ). first_channel x c.items_mut-else-magnitude-angle-2.result.now) a ∙ ap (first_channel c.index-back-0-else-magnitude-angle.result) b))
    (c.uncouple-else-magnitude-angle.auto.angle ∙ ap length b) (c.uncouple-else-magnitude-angle.auto.magnitude ∙ ap length a)
    ∙ set_comm c.args.channels.now c.args.angle c.args.magnitude
    (second_channel (channel c.args.channels.now c.args.magnitude) (channel c.args.channels.now c.args.angle))
    (first_channel (channel c.args.channels.now c.args.magnitude) (channel c.args.channels.now c.args.angle)) other
