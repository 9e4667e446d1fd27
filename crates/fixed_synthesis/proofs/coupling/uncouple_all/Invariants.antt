use Rattle.std.proofs.Common.{◌≡◌}
use Rattle.model_synthesis.specs.Coupling.{bin_count, AreChannels}
use Rattle.fixed_synthesis.proofs.Channels.{undone}
use Rattle.fixed_synthesis.proofs.coupling.uncouple_all.Given as goal

abbrev pub invariant-loop-n : goal.invariant-loop-n
invariant-loop-n l = record {
  values : l.channels ≡ undone l.steps l.fn.channels l.n;
  channels : AreChannels (bin_count l.fn.channels) l.channels;
  bins : bin_count l.channels ≡ bin_count l.fn.channels;
}
