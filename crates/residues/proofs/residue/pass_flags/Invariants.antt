use Rattle.std.proofs.Common.{◌≡◌, drop}
use Rattle.model_writing.specs.SetupWriting.{pass_flags}
use Rattle.residues.proofs.residue.pass_flags.Given as goal

abbrev pub invariant-loop-pass : goal.invariant-loop-pass
invariant-loop-pass l = l.flags ≡ pass_flags (drop l.pass l.cascade)
