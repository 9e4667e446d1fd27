use Rattle.std.proofs.Common.{◌≡◌, drop}
use Rattle.std.specs.Prelude.{bit_xor}
use Rattle.ogg_pages.specs.Leaps.{xor_of_bits}
use Rattle.ogg_pages.proofs.leaps.xor_of_bits.Given as goal

abbrev pub invariant-loop-word : goal.invariant-loop-word
invariant-loop-word l = bit_xor l.sum (xor_of_bits l.rest (drop l.word-index l.words)) ≡ xor_of_bits l.register l.words
