use Rattle.std.proofs.Common.{◌≡◌, ◌-◌, ◌<◌, length}
use Rattle.std.specs.List.{All}
use Rattle.model_trial.specs.Draws.{draw, draws}
use Rattle.film_maker.proofs.Collected.{collected}
use Rattle.film_maker.proofs.drawn.draw_bytes.Given as goal

abbrev pub invariant-loop : goal.invariant-loop
invariant-loop l = record {
  drawn : collected (draw l.bound) l.bytes.items (l.count - l.counter) l.numbers ≡ draws l.count (draw l.bound) l.fn.numbers;
  many : length l.bytes.items ≡ l.counter;
  below : All (λ byte. byte < l.bound) l.bytes.items;
}
