use Rattle.std.proofs.Common.{◌≡◌, ◌≤◌, ◌<◌, ◌+◌, ℕ, get_or, None}
use Rattle.model_setup.specs.Codewords.{size_of}
use Rattle.codebooks.specs.Free.{FreeAt}
use Rattle.codebooks.proofs.words.leave.Given as goal

abbrev pub invariant-loop-y : goal.invariant-loop-y
invariant-loop-y l = record {
  left : (z : ℕ) → l.level < z → z < l.y → FreeAt l.free z (l.start + size_of z);
  larger : (z : ℕ) → z ≤ l.level → get_or l.free z None ≡ get_or l.fn.free z None;
  smaller : (z : ℕ) → l.y ≤ z → get_or l.free z None ≡ get_or l.fn.free z None;
}
