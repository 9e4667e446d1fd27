use Rattle.std.proofs.Common.{◌≡◌, ◌≤◌, ◌<◌, [], length, drop}
use Rattle.std.specs.List.{All}
use Rattle.model_setup.specs.Codewords.{words_behind}
use Rattle.codebooks.specs.Free.{Spaces}
use Rattle.codebooks.proofs.words.all_words.Given as goal

abbrev pub invariant-loop-i : goal.invariant-loop-i
invariant-loop-i l = record {
  words : words_behind l.words.items l.i (drop l.i l.lengths) ≡ words_behind [] 0 l.lengths;
  spaces : Spaces l.words.items l.free;
  below : All (λ w. w.entry < l.i) l.words.items;
  count : length l.words.items ≤ l.i;
}
