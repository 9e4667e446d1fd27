use Rattle.std.proofs.Common.{◌+◌, [], ◌∷◌, None, get_or, drop, refl, ap, sym, ◌∙◌, arith}
use Rattle.std.specs.Option.{ok_or}
use Rattle.std.proofs.lemmas.List.{at_drop_more, drop_all}
use Rattle.std.proofs.lemmas.Result.{err_from_is_err_and}
use Rattle.model_setup.specs.declared.book.BookFault.TheVariants.{Tree}
use Rattle.model_setup.specs.Codewords.{words_behind}
use Rattle.codebooks.proofs.Claims.{spaces_first}
use Rattle.codebooks.proofs.WordLists.{word_goes_on, word_ends, is_ok, is_refused}
use Rattle.codebooks.proofs.words.all_words.Goals as goal

pub loop-i-init : goal.loop-i-init
loop-i-init c = rw c.new-words.ensures.items (record { words = refl; spaces = spaces_first; below = λ k d l. absurd (omega arith); count = omega arith })

pub loop-i-preserved : goal.loop-i-preserved
loop-i-preserved c =
    let l = c.loop-i in
    let xs = c.args.lengths.now in
    let one = is_ok (words_behind l.words.items l.i (get_or xs l.i None ∷ [])) c.add_entry.new.words.items c.in_ok-add_entry.ensures.added in
    let n = word_goes_on l.words.items c.add_entry.new.words.items l.i (drop (l.i + 1) xs) (get_or xs l.i None) one in
    record {
      words = sym n ∙ sym (at_drop_more (words_behind l.words.items l.i) xs l.i None c.loop-i-test.true) ∙ l.invariant.words;
      spaces = c.in_ok-add_entry.ensures.spaces;
      below = c.in_ok-add_entry.ensures.below;
      count = let k = c.in_ok-add_entry.ensures.count in let j = l.invariant.count in omega arith;
    }

pub returns-in_err-add_entry-clause-words : goal.returns-in_err-add_entry-clause-words
returns-in_err-add_entry-clause-words c =
    let p = err_from_is_err_and c.from_residual.result c.from_residual.ensures.1 in
    let l = c.loop-i in
    let xs = c.args.lengths.now in
    let here = words_behind l.words.items l.i (get_or xs l.i None ∷ []) in
    rw (p.1, p.2) (λ other.
    let a = c.in_err-add_entry.ensures.added other in
    let none = is_refused here c.in_err-add_entry.field-0.0 a in
    let whole = sym l.invariant.words ∙ at_drop_more (words_behind l.words.items l.i) xs l.i None c.loop-i-test.true ∙ word_ends l.words.items l.i (drop (l.i + 1) xs) (get_or xs l.i None) none in
    ap (λ o. ok_or o Tree) (whole ∙ sym none) ∙ a)

pub returns-clause-words : goal.returns-clause-words
unfolding words_behind
returns-clause-words c =
    let l = c.loop-i in
    let w = l.invariant.words in
    rw (← w, drop_all l.i c.args.lengths.now (omega arith)) refl
