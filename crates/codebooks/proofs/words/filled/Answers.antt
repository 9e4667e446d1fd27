use Rattle.std.proofs.Common.{◌≡◌, ◌≤◌, ◌^◌, ◌∙◌, ap, get_or, arith}
use Rattle.std.proofs.lemmas.List.Sums.{sum_by_more}
use Rattle.model_setup.specs.declared.book.Word.{Word}
use Rattle.model_setup.specs.Codewords.{size_of, filled}
use Rattle.model_setup.proofs.Sizes.{size-most}
use Rattle.codebooks.proofs.words.filled.Goals as goal

abbrev none : Word
none = record { entry = 0; len = 0; start = 0 }

pub overflow_add-sum : goal.overflow_add-sum
overflow_add-sum c =
    let m : size_of c.from.result ≤ 2 ^ 32 = size-most c.from.result in
    omega arith

pub loop-word-preserved : goal.loop-word-preserved
unfolding filled
loop-word-preserved c =
    let m : size_of c.from.result ≤ 2 ^ 32 = size-most c.from.result in
    let i = c.loop-word.word-index in
    let more = sum_by_more (λ (w : Word). size_of w.len) c.args.words.now i none c.loop-word-test.true in
    let e : c.size_of-sum.result ≡ size_of (get_or c.args.words.now i none).len = c.size_of-sum.ensures ∙ ap size_of c.from.ensures in
    (rw (more, ← e) (omega arith), omega arith)
