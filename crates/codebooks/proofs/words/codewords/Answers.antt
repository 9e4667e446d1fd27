use Rattle.std.proofs.Common.{◌≡◌, rules, refl, Some}
use Rattle.std.proofs.lemmas.List.Sorted.{IsNonDecreasingBy-from_sort_by_key, All-permutation}
use Rattle.model_setup.specs.declared.book.Word.{Word}
use Rattle.model_setup.specs.Codewords.{book_words, IsPlaced}
use Rattle.codebooks.proofs.WordLists.{is_ok}
use Rattle.codebooks.proofs.words.codewords.Goals as goal

pub returns : goal.returns
returns c =
    let e : book_words c.args.lengths.now ≡ Some c.in_ok-words.words.items = is_ok (book_words c.args.lengths.now) c.in_ok-words.words.items c.in_ok-words.ensures.words in
    let s = c.sort_unstable_by_key.ensures in
    record {
      tree = record {
        right = rw e refl;
        same = rw e s.permutation;
        apart = rw e c.in_ok-words.ensures.apart;
        below = rw e c.in_ok-words.ensures.below;
        placed = All-permutation IsPlaced c.in_ok-words.words.items c.sort_unstable_by_key.new.self.items s.permutation c.in_ok-words.ensures.placed;
        rising = IsNonDecreasingBy-from_sort_by_key (λ (w : Word). w.start) _ s.sorted (λ a r q k. search rules);
      };
      words = rw e refl;
    }
