use Rattle.std.proofs.Common.{◌≡◌, vec_len}
use Rattle.model_synthesis.specs.Windows.{AreBlockValues}
use Rattle.lap_window.proofs.tests.rising_values.Given as goal

abbrev pub invariant-loop-place : goal.invariant-loop-place
invariant-loop-place l = record {
  count : vec_len l.values ≡ l.place;
  small : AreBlockValues l.values.items;
}
