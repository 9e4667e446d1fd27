-- A word's place is claimed: what is free afterwards.
use Rattle.std.proofs.Common.{◌≡◌, ℕ, zero, suc, ◌+◌, ◌-◌, ◌*◌, ◌^◌, ◌<◌, ◌≤◌, List, [], ◌∷◌, ◌++◌, length, replicate, get_or, Option, Some, None, true, false, ◌⊎◌, inl, inr, refl, ap, sym, ◌∙◌, subst, arith, leb, zero-mul}
use Rattle.std.proofs.lemmas.Bool.{cases_lt, cases_order, leb-true, le-leb, or_left, or_right, or_parts, or_cases, both_ways, true_from_ne_false, and_from}
use Rattle.std.proofs.lemmas.Bool.Decides.{nat_tests}
use Rattle.std.proofs.lemmas.List.Folds.{list_all-append, list_any-append}
use Rattle.std.proofs.lemmas.Option.{same_Some, none-some}
use Rattle.std.proofs.lemmas.List.Folds.{list_all_at}
use Rattle.std.proofs.lemmas.List.Elements.{All-push}
use Rattle.std.proofs.lemmas.List.Quantifiers.{all_pairs_push}
use Rattle.std.specs.List.{list_all, list_any}
use Rattle.model_setup.specs.Codewords.{size_of, is_apart, words_behind, IsPlaced, AreApart}
use Rattle.model_setup.specs.declared.book.Word.{Word}
use Rattle.model_setup.proofs.Sizes.{size-zero, size-half, size-le, size-next, finer}
use Rattle.codebooks.specs.Free.{FreeAt, Claim, Spaces, claims}
use Rattle.codebooks.proofs.Places.{apart_within, none_free, nearest_first}

abbrev pub word : ℕ → ℕ → ℕ → Word
word entry len start = record { entry = entry; len = len; start = start }

-- an interval that is free afterwards was free before, or is left behind the word
abbrev Origin : List (Option ℕ) → ℕ → ℕ → ℕ → ℕ → ℕ → Type 0
Origin free level len start y b = (((y < level) ⊎ (len < y)) × FreeAt free y b) ⊎ ((level < y) × (y ≤ len) × (b ≡ start + size_of y))

origin : (free new : List (Option ℕ)) (len start : ℕ) (c : Claim free new len start) (y b : ℕ) → FreeAt new y b → Origin free c.level len start y b
origin free new len start c y b at =
    elim (cases_order y c.level) [
      | inl e ↦ absurd (none-some b (sym c.taken ∙ sym (ap (λ n. get_or new n None) e) ∙ at))
      | inr (inl less) ↦ inl (inl less, sym (c.larger y less) ∙ at)
      | inr (inr more) ↦ elim (cases_lt len y) [
        | inl far ↦ inl (inr far, sym (c.smaller y far) ∙ at)
        | inr near ↦ inr (more, near, same_Some b (start + size_of y) (sym at ∙ c.left y more near))
      ]
    ]

-- the numbers behind the word are those of the intervals that are left
tail_cover : (start level d x : ℕ) → level + d ≤ 32 → start + size_of (level + d) ≤ x → x < start + size_of level → (y : ℕ) × (level < y) × (y ≤ level + d) × (start + size_of y ≤ x) × (x < start + size_of y + size_of y)
tail_cover start level zero x small low high =
    let e : size_of (level + 0) ≡ size_of level = ap size_of (omega arith) in
    absurd (omega arith)
tail_cover start level (suc d) x small low high =
    let e : size_of (level + suc d) ≡ size_of (level + d + 1) = ap size_of (omega arith) in
    let twice : size_of (level + d) ≡ 2 * size_of (level + d + 1) = size-next (level + d) (omega arith) in
    elim (cases_lt x (start + size_of (level + d))) [
      | inl here ↦ (level + suc d, omega arith, omega arith, low, omega arith)
      | inr there ↦
          let r = tail_cover start level d x (omega arith) there high in
          let l = r.2 in
          (r.0, r.1, omega arith, r.3, r.4)
    ]

abbrev Tail : ℕ → ℕ → ℕ → ℕ → Type 0
Tail start level len x = (y : ℕ) × (level < y) × (y ≤ len) × (start + size_of y ≤ x) × (x < start + size_of y + size_of y)

tail : (start level len x : ℕ) → level ≤ len → len ≤ 32 → start + size_of len ≤ x → x < start + size_of level → Tail start level len x
tail start level len x near small low high =
    let g : level + (len - level) ≡ len = omega arith in
    subst (λ (n : ℕ). n ≤ 32 → start + size_of n ≤ x → Tail start level n x) g (λ a b. tail_cover start level (len - level) x a b high) small low

-- a free interval is apart from the word's
apart_word : (words : List Word) (free new : List (Option ℕ)) (entry len start : ℕ) → len ≤ 32 → Spaces words free → (c : Claim free new len start) → (y b : ℕ) → Origin free c.level len start y b → is_apart b (size_of y) (word entry len start) ≡ true
apart_word words free new entry len start small sp c y b (inl (inl less, at)) =
    let near = c.near in
    let r : start + size_of c.level ≤ b = sp.rising y c.level b start less at c.was in
    let l : size_of len ≤ size_of c.level = size-le c.level len near small in
    or_right (leb (b + size_of y) start) (leb (start + size_of len) b) (le-leb (start + size_of len) b (omega arith))
apart_word words free new entry len start small sp c y b (inl (inr far, at)) =
    let near = c.near in
    let r : b + size_of y ≤ start = sp.rising c.level y start b (omega arith) c.was at in
    or_left (leb (b + size_of y) start) (leb (start + size_of len) b) (le-leb (b + size_of y) start r)
apart_word words free new entry len start small sp c y b (inr (more, le, e)) =
    let l : size_of len ≤ size_of y = size-le y len le small in
    or_right (leb (b + size_of y) start) (leb (start + size_of len) b) (le-leb (start + size_of len) b (omega arith))

-- a free interval is apart from the earlier words
apart_words : (words : List Word) (free new : List (Option ℕ)) (len start : ℕ) → len ≤ 32 → Spaces words free → (c : Claim free new len start) → (y b : ℕ) → Origin free c.level len start y b → list_all (is_apart b (size_of y)) words ≡ true
apart_words words free new len start small sp c y b (inl (_, at)) = sp.unclaimed y b at
apart_words words free new len start small sp c y b (inr (more, le, e)) =
    let h : 2 * size_of y ≤ size_of c.level = size-half c.level y more (omega arith) in
    apart_within words start (size_of c.level) b (size_of y) (sp.unclaimed c.level start c.was) (omega arith) (omega arith)

still_rising : (words : List Word) (free new : List (Option ℕ)) (len start : ℕ) → len ≤ 32 → Spaces words free → (c : Claim free new len start) → (y z a b : ℕ) → y < z → Origin free c.level len start y a → Origin free c.level len start z b → b + size_of z ≤ a
still_rising words free new len start small sp c y z a b l (inl (_, ya)) (inl (_, zb)) = sp.rising y z a b l ya zb
still_rising words free new len start small sp c y z a b l (inl (inl less, ya)) (inr (more, le, e)) =
    let h : 2 * size_of z ≤ size_of c.level = size-half c.level z more (omega arith) in
    let r : start + size_of c.level ≤ a = sp.rising y c.level a start less ya c.was in
    omega arith
still_rising words free new len start small sp c y z a b l (inl (inr far, ya)) (inr (more, le, e)) = absurd (omega arith)
still_rising words free new len start small sp c y z a b l (inr (more, le, e)) (inl (inl less, zb)) = absurd (omega arith)
still_rising words free new len start small sp c y z a b l (inr (more, le, e)) (inl (inr far, zb)) =
    let r : b + size_of z ≤ start = sp.rising c.level z start b (omega arith) c.was zb in
    omega arith
still_rising words free new len start small sp c y z a b l (inr (more, le, e)) (inr (more', le', e')) =
    let h : 2 * size_of z ≤ size_of y = size-half y z l (omega arith) in
    omega arith

still_aligned : (words : List Word) (free new : List (Option ℕ)) (len start : ℕ) → len ≤ 32 → Spaces words free → (c : Claim free new len start) → (y b : ℕ) → Origin free c.level len start y b → (k : ℕ) × (b ≡ k * size_of y)
still_aligned words free new len start small sp c y b (inl (_, at)) = sp.aligned y b at
still_aligned words free new len start small sp c y b (inr (more, le, e)) =
    let al = sp.aligned c.level start c.was in
    let s : start ≡ al.0 * size_of c.level = al.1 in
    let fin : al.0 * size_of c.level ≡ (al.0 * 2 ^ (y - c.level)) * size_of y = finer c.level y al.0 (omega arith) (omega arith) in
    (suc (al.0 * 2 ^ (y - c.level)), omega arith)

still_within : (words : List Word) (free new : List (Option ℕ)) (len start : ℕ) → len ≤ 32 → Spaces words free → (c : Claim free new len start) → (y b : ℕ) → Origin free c.level len start y b → (y ≤ 32) × (b + size_of y ≤ 2 ^ 32)
still_within words free new len start small sp c y b (inl (_, at)) = (sp.levels y b at, sp.within y b at)
still_within words free new len start small sp c y b (inr (more, le, e)) =
    let h : 2 * size_of y ≤ size_of c.level = size-half c.level y more (omega arith) in
    let w : start + size_of c.level ≤ 2 ^ 32 = sp.within c.level start c.was in
    (omega arith, omega arith)

outside : (x len start : ℕ) (entry : ℕ) → claims x (word entry len start) ≡ false → start ≤ x → start + size_of len ≤ x
outside x len start entry h l = grind (arith, nat_tests)

still_covered : (words : List Word) (free new : List (Option ℕ)) (entry len start : ℕ) → len ≤ 32 → Spaces words free → (c : Claim free new len start) → (x : ℕ) → claims x (word entry len start) ≡ false
    → (z s : ℕ) → FreeAt free z s → s ≤ x → x < s + size_of z → (z' : ℕ) × (s' : ℕ) × FreeAt new z' s' × (s' ≤ x) × (x < s' + size_of z')
still_covered words free new entry len start small sp c x not_in z s at low high =
    elim (cases_order z c.level) [
      | inl e ↦
          let same : s ≡ start = same_Some s start (sym at ∙ ap (λ n. get_or free n None) e ∙ c.was) in
          let f : size_of z ≡ size_of c.level = ap size_of e in
          let near = c.near in
          let o : start + size_of len ≤ x = outside x len start entry not_in (omega arith) in
          let t = tail start c.level len x near small o (omega arith) in
          (t.0, start + size_of t.0, c.left t.0 t.1 t.2, t.3, t.4)
      | inr (inl less) ↦ (z, s, c.larger z less ∙ at, low, high)
      | inr (inr more) ↦ elim (cases_lt len z) [
        | inl far ↦ (z, s, c.smaller z far ∙ at, low, high)
        | inr near ↦ absurd (none-some s (sym (c.between z more near) ∙ at))
      ]
    ]

pub apart_either : (s n : ℕ) (w : Word) → is_apart s n w ≡ true → (w.start + size_of w.len ≤ s) ⊎ (s + n ≤ w.start)
apart_either s n w h = elim (or_cases (leb (s + n) w.start) (leb (w.start + size_of w.len) s) h) [
  | inl before ↦ inr (leb-true (s + n) w.start before)
  | inr behind ↦ inl (leb-true (w.start + size_of w.len) s behind)
]

-- the new word is apart from the earlier ones
new_apart : (words : List Word) (free new : List (Option ℕ)) (entry len start : ℕ) → len ≤ 32 → Spaces words free → Claim free new len start → (k : ℕ) (d : Word) → k < length words → AreApart (get_or words k d) (word entry len start)
new_apart words free new entry len start small sp c k d l =
    let near = c.near in
    let less : size_of len ≤ size_of c.level = size-le c.level len near small in
    let all : list_all (is_apart start (size_of len)) words ≡ true = apart_within words start (size_of c.level) start (size_of len) (sp.unclaimed c.level start c.was) (omega arith) (omega arith) in
    apart_either start (size_of len) (get_or words k d) (true_from_ne_false (is_apart start (size_of len) (get_or words k d)) (λ f. both_ways (list_all (is_apart start (size_of len)) words) (list_all_at (is_apart start (size_of len)) words k d l f) all))

new_placed : (words : List Word) (free new : List (Option ℕ)) (entry len start : ℕ) → 0 < len → len ≤ 32 → Spaces words free → Claim free new len start → IsPlaced (word entry len start)
new_placed words free new entry len start some small sp c =
    let near = c.near in
    let al = sp.aligned c.level start c.was in
    let e : start ≡ al.0 * size_of c.level = al.1 in
    let less : size_of len ≤ size_of c.level = size-le c.level len near small in
    let w : start + size_of c.level ≤ 2 ^ 32 = sp.within c.level start c.was in
    record { some = some; len = small; at = (al.0 * 2 ^ (len - c.level), e ∙ finer c.level len al.0 near small); within = omega arith }

-- after a claim the free intervals are those beside the words and the new one
pub spaces_after : (words : List Word) (free new : List (Option ℕ)) (entry len start : ℕ) → 0 < len → len ≤ 32 → Spaces words free → Claim free new len start → Spaces (words ++ word entry len start ∷ []) new
spaces_after words free new entry len start some small sp c = record {
  levels = λ z s at. (still_within words free new len start small sp c z s (origin free new len start c z s at)).0;
  aligned = λ z s at. still_aligned words free new len start small sp c z s (origin free new len start c z s at);
  within = λ z s at. (still_within words free new len start small sp c z s (origin free new len start c z s at)).1;
  rising = λ y z a b l ya zb. still_rising words free new len start small sp c y z a b l (origin free new len start c y a ya) (origin free new len start c z b zb);
  unclaimed = λ z s at.
      let o = origin free new len start c z s at in
      list_all-append (is_apart s (size_of z)) words (word entry len start ∷ []) ∙ and_from _ _ (apart_words words free new len start small sp c z s o) (and_from _ _ (apart_word words free new entry len start small sp c z s o) refl);
  covered = λ x l none.
      let p = or_parts (list_any (claims x) words) (list_any (claims x) (word entry len start ∷ [])) (sym (list_any-append (claims x) words (word entry len start ∷ [])) ∙ none) in
      let q = or_parts (claims x (word entry len start)) false p.1 in
      let f = sp.covered x l p.0 in
      still_covered words free new entry len start small sp c x q.0 f.0 f.1 f.2 f.3 f.4;
  placed = All-push IsPlaced words (word entry len start) sp.placed (new_placed words free new entry len start some small sp c);
  apart = all_pairs_push AreApart words (word entry len start) sp.apart (new_apart words free new entry len start small sp c);
}

only : (free : List (Option ℕ)) → get_or free 0 None ≡ Some 0 → ((z : ℕ) → 0 < z → get_or free z None ≡ None) → (z s : ℕ) → FreeAt free z s → (z ≡ 0) × (s ≡ 0)
only free all none zero s at = (refl, same_Some s 0 (sym at ∙ all))
only free all none (suc z) s at = absurd (none-some s (sym (none (suc z) (omega arith)) ∙ at))

-- before any word all is free, as one interval
pub spaces_none : (free : List (Option ℕ)) → get_or free 0 None ≡ Some 0 → ((z : ℕ) → 0 < z → get_or free z None ≡ None) → Spaces [] free
spaces_none free all none = record {
  levels = λ z s at. let o = only free all none z s at in let e : z ≡ 0 = o.0 in omega arith;
  aligned = λ z s at. (0, (only free all none z s at).1 ∙ sym (zero-mul (size_of z)));
  within = λ z s at. let o = only free all none z s at in let e : z ≡ 0 = o.0 in let f : s ≡ 0 = o.1 in rw (e, f, size-zero) (omega arith);
  rising = λ y z a b l ya zb. let o = only free all none z b zb in let e : z ≡ 0 = o.0 in absurd (omega arith);
  unclaimed = λ z s at. refl;
  covered = λ x l n. (0, 0, all, omega arith, rw size-zero (omega arith));
  placed = λ k d l. absurd (omega arith);
  apart = λ i j d l m. absurd (omega arith);
}

-- a step of the loop over the lengths
pub word_found : (words : List Word) (free new : List (Option ℕ)) (entry len start : ℕ) → len ≤ 32 → Spaces words free → Claim free new len start → words_behind words entry (Some len ∷ []) ≡ Some (words ++ word entry len start ∷ [])
unfolding words_behind
word_found words free new entry len start small sp c =
    rw (nearest_first words free sp len c.level start small c.near c.was c.between) refl

pub word_refused : (words : List Word) (free : List (Option ℕ)) (entry len : ℕ) → len ≤ 32 → Spaces words free → ((z : ℕ) → z ≤ len → get_or free z None ≡ None) → words_behind words entry (Some len ∷ []) ≡ None
unfolding words_behind
word_refused words free entry len small sp none = rw (none_free words free sp len small none) refl

abbrev none_of : Option ℕ
none_of = None

none_at : (n z : ℕ) → get_or (replicate n none_of) z None ≡ None
none_at zero z = refl
none_at (suc n) zero = refl
none_at (suc n) (suc z) = none_at n z

-- the array as it is filled first
pub spaces_first : Spaces [] (Some 0 ∷ replicate 32 none_of)
spaces_first = spaces_none (Some 0 ∷ replicate 32 none_of) refl (λ z h. first_none z h)
  where
    first_none : (z : ℕ) → 0 < z → get_or (Some 0 ∷ replicate 32 none_of) z None ≡ None
    first_none zero h = absurd (omega arith)
    first_none (suc z) h = none_at 32 z
