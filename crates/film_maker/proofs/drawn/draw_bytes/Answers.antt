use Rattle.std.proofs.Common.{ℕ, ◌<◌, [], ◌∷◌, length, ap, ◌∙◌, arith, length-append}
use Rattle.std.proofs.lemmas.List.Elements.{All-push}
use Rattle.model_trial.specs.Draws.{draw}
use Rattle.film_maker.proofs.Collected.{one_collected}
use Rattle.film_maker.proofs.drawn.draw_bytes.Goals as goal

pub loop-preserved : goal.loop-preserved
loop-preserved c =
    let before = c.loop.bytes.items in
    let items = c.in_ok-push.ensures.items in
    record {
      drawn = one_collected (draw c.args.bound) before c.push.new.self.items c.draw.result c.args.count c.loop.counter c.loop.numbers c.draw.new.self (omega arith) items c.draw.ensures.drawn
          ∙ c.loop.invariant.drawn;
      many = ap length items ∙ omega (arith, length-append before (c.draw.result ∷ []), c.loop.invariant.many);
      below = rw items (All-push (λ (byte : ℕ). byte < c.args.bound) before c.draw.result c.loop.invariant.below c.draw.ensures.below);
    }
