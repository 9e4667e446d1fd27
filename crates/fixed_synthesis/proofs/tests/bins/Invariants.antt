use Rattle.std.proofs.Common.{◌≡◌, length}
use Rattle.std.specs.List.{All}
use Rattle.model_synthesis.specs.Spectrum.{IsBin}
use Rattle.fixed_synthesis.proofs.tests.bins.Given as goal

abbrev pub invariant-loop-place : goal.invariant-loop-place
invariant-loop-place l = record {
  count : length l.bins.items ≡ l.place;
  bins : All IsBin l.bins.items;
}
