use Rattle.std.proofs.Common.{◌≡◌, ◌≤◌, ◌*◌, ◌^◌, take}
use Rattle.model_setup.specs.Codewords.{filled}
use Rattle.codebooks.proofs.words.filled.Given as goal

abbrev pub invariant-loop-word : goal.invariant-loop-word
invariant-loop-word l = (l.sum ≡ filled (take l.word-index l.words)) × (l.sum ≤ l.word-index * 2 ^ 32)
