use Rattle.std.proofs.Common.{◌≡◌, ◌+◌, ◌-◌, ◌/◌, ◌%◌, ◌^◌, ◌<◌, length, ap, sym, ◌∙◌, arith}
use Rattle.std.proofs.Math.Nat.{one-le-pow}
use Rattle.std.proofs.lemmas.List.FromFn.{fill_by_all}
use Rattle.codebooks.proofs.Fills.{digits_next}
use Rattle.residues.proofs.Digits.{saturated, digits_more}
use Rattle.residues.proofs.class_words.split_word.Goals as goal

pub nonzero_div-rest : goal.nonzero_div-rest
nonzero_div-rest c =
    let word = c.args.word in
    let some = one-le-pow (word.classwords - length c.args.classes.now) word.base c.requires.some in
    omega (arith, c.saturating_pow-past.ensures)

pub loop-k-init : goal.loop-k-init
loop-k-init c =
    let word = c.args.word in
    let none : word.classwords - length c.args.classes.now + 0 ≡ word.classwords - length c.args.classes.now = omega arith in
    let small : word.number < 4294967295 = omega arith in
    record {
      rest = ap (λ n. word.number / n) c.saturating_pow-past.ensures ∙ saturated word.number (word.base ^ (word.classwords - length c.args.classes.now)) 4294967295 small ∙ ap (λ n. word.number / word.base ^ n) (sym none);
      done = λ j h k. absurd (omega arith);
    }

pub loop-k-preserved : goal.loop-k-preserved
loop-k-preserved c =
    let word = c.args.word in
    let count = length c.args.classes.now in
    let more : word.classwords - count + c.loop-k.k + 1 ≡ word.classwords - count + (c.loop-k.k + 1) = omega arith in
    record {
      rest = ap (λ n. n / word.base) c.loop-k.invariant.rest ∙ digits_next word.number word.base (word.classwords - count + c.loop-k.k) ∙ ap (λ n. word.number / word.base ^ n) more;
      done = digits_more c.loop-k.classes word.classwords count c.loop-k.k word.number word.base c.loop-k.rest c.loop-k.auto.classes c.requires.within c.loop-k-test.true c.loop-k.invariant.rest c.loop-k.invariant.done;
    }

pub returns : goal.returns
returns c =
    let word = c.args.word in
    let count = length c.args.classes.now in
    fill_by_all (λ k. word.number / word.base ^ (word.classwords - 1 - k) % word.base) c.loop-k.classes count 0 c.loop-k.auto.classes (λ k h. c.loop-k.invariant.done k h (omega arith))
