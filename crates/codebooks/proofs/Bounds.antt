-- The entries that are read are the book's.
use Rattle.std.proofs.Common.{◌≡◌, ℕ, ◌<◌, ◌^◌, List, [], ◌∷◌, Option, Some, None, Bool, ap, sym, subst, arith, IfSome}
use Rattle.std.specs.List.{find, All}
use Rattle.std.proofs.lemmas.Option.{none-some, some_pair_parts}
use Rattle.model_setup.specs.declared.book.Word.{Word}
use Rattle.model_setup.specs.Codewords.{begins, entry_begun, entry_by, entry_behind}
use Rattle.codebooks.proofs.Finds.{find_is, mapped_some}

begun_below : (words : List Word) (left rest : List Bool) (e n : ℕ) → All (λ w. w.entry < n) words → entry_begun words left ≡ Some (e, rest) → e < n
unfolding entry_begun
begun_below words left rest e n all h =
    let m = mapped_some (entry_behind left) (find (begins left) words) (e, rest) (sym h) in
    let f = find_is (begins left) words m.0 m.1 in
    let b : m.0.entry < n = subst (λ (w : Word). w.entry < n) f.2 (all f.0 m.0 f.1) in
    subst (λ (x : ℕ). x < n) (sym (ap (λ (p : ℕ × List Bool). p.0) m.2)) b

pub entry_below : (words : List Word) (left rest : List Bool) (e n : ℕ) → All (λ w. w.entry < n) words → entry_by words left ≡ Some (e, rest) → e < n
unfolding entry_by
entry_below [] left rest e n all h = absurd (none-some (e, rest) h)
entry_below (word ∷ []) [] rest e n all h = absurd (none-some (e, rest) h)
entry_below (word ∷ []) (bit ∷ left) rest e n all h =
    let p = some_pair_parts word.entry e left rest h in
    let b : word.entry < n = all 0 word (omega arith) in
    subst (λ (x : ℕ). x < n) p.0 b
entry_below (word ∷ more ∷ words) left rest e n all h = begun_below (word ∷ more ∷ words) left rest e n all h

pub read_below : (words : List Word) (left rest : List Bool) (n : ℕ) (o : Option ℕ) → All (λ w. w.entry < n) words → IfSome o (λ e. entry_by words left ≡ Some (e, rest)) → IfSome o (λ e. e < n)
read_below words left rest n None all h = h
read_below words left rest n (Some e) all h = entry_below words left rest e n all h

pub all_below : (o : Option ℕ) (n : ℕ) → n < 2 ^ 24 → IfSome o (λ e. e < n) → IfSome o (λ e. e < 2 ^ 24)
all_below None n few h = h
all_below (Some e) n few h = omega (arith, h)
