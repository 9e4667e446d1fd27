use Rattle.std.proofs.Common.{◌≡◌, ℕ, ◌+◌, ◌-◌, ◌/◌, ◌%◌, ◌^◌, ◌<◌, ◌≤◌, get_or}
use Rattle.residues.proofs.class_words.split_word.Given as goal

abbrev pub invariant-loop-k : goal.invariant-loop-k
invariant-loop-k l = record {
  rest : l.rest ≡ l.word.number / l.word.base ^ (l.word.classwords - l.count + l.k);
  done : (j : ℕ) → j < l.count → l.count - l.k ≤ j → get_or l.classes j 0 ≡ l.word.number / l.word.base ^ (l.word.classwords - 1 - j) % l.word.base;
}
