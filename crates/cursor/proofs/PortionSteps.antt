-- How the portions of a read are listed.
use Rattle.std.proofs.Common.{◌≡◌, ◌≢◌, ℕ, suc, ◌+◌, ◌-◌, ◌≤◌, ◌<◌, ◌⊎◌, inl, inr, Bool, true, false, nat_eq, nat_lt, cond, ◌&&◌, List, [], ◌∷◌, ◌++◌, length, drop, get_or, refl, ap, sym, ◌∙◌, arith, append_assoc, append-nil, drop-cons, eq-eqb}
use Rattle.std.proofs.lemmas.List.{drop_all}
use Rattle.std.proofs.lemmas.Bool.{lt-ltb, eqb-true}
use borrow.Author.Tests.{ltb-true}
use Rattle.model_line.specs.declared.row.GapKind.{GapKind}
use Rattle.model_line.specs.declared.item.Span.{Span}
use Rattle.model_line.specs.declared.item.Item.{Item}
use Rattle.model_line.specs.declared.item.Item.TheVariants as variants
use Rattle.cursor.specs.declared.portions.Portion.{Portion}
use Rattle.cursor.specs.Portions.{cut, portions_on}

-- the items from one on begin with it
pub front : {A : Type 0} (xs : List A) (i : ℕ) (d x : A) → i < length xs → get_or xs i d ≡ x → drop i xs ≡ x ∷ drop (i + 1) xs
front xs i d x lt is = let one : i + 1 ≡ suc i = omega arith in rw one (drop-cons xs i d lt ∙ ap (λ y. y ∷ drop (suc i) xs) is)

pub portions_end : (link left i : ℕ) (items : List Item) (portions total : List Portion) → length items ≤ i → portions ++ portions_on link left (drop i items) ≡ total → portions ≡ total
unfolding portions_on
portions_end link left i items portions total le h = let here = rw (drop_all i items le) at h in sym (append-nil portions) ∙ here

pub gap_ends : (link left i other : ℕ) (kind : GapKind) (items : List Item) (d : Item) (portions total : List Portion) → i < length items → get_or items i d ≡ variants.Gap other kind → portions ++ portions_on link left (drop i items) ≡ total → portions ≡ total
unfolding portions_on
gap_ends link left i other kind items d portions total lt is h = let here = rw (front items i d (variants.Gap other kind) lt is) at h in sym (append-nil portions) ∙ here

none_by : (b c : Bool) (xs : List Portion) → (b ≡ true → c ≡ true → ⊥) → cond (b && c) xs [] ≡ []
none_by true true xs h = absurd (h refl refl)
none_by true false xs h = refl
none_by false true xs h = refl
none_by false false xs h = refl

pub none_on : (link left : ℕ) (s : Span) (xs : List Item) → (s.link ≢ link) ⊎ (left ≡ 0) → portions_on link left (variants.Span s ∷ xs) ≡ []
unfolding portions_on
none_on link left s xs h = none_by (nat_eq s.link link) (nat_lt 0 left) (cut 0 left s ∷ portions_on link (left - (s.to - s.from)) xs) (λ e f. elim h [
  | inl other ↦ other (eqb-true s.link link e)
  | inr none ↦ let some = ltb-true 0 left f in omega arith
])

pub span_ends : (link left i : ℕ) (s : Span) (items : List Item) (d : Item) (portions total : List Portion) → i < length items → get_or items i d ≡ variants.Span s → (s.link ≢ link) ⊎ (left ≡ 0) → portions ++ portions_on link left (drop i items) ≡ total → portions ≡ total
span_ends link left i s items d portions total lt is other h =
    let here = rw (front items i d (variants.Span s) lt is, none_on link left s (drop (i + 1) items) other) at h in sym (append-nil portions) ∙ here

pub more_on : (link left : ℕ) (s : Span) (xs : List Item) → s.link ≡ link → 0 < left → portions_on link left (variants.Span s ∷ xs) ≡ cut 0 left s ∷ portions_on link (left - (s.to - s.from)) xs
unfolding portions_on
more_on link left s xs same some = let linked : nat_eq s.link link ≡ true = eq-eqb s.link link same in let counted : nat_lt 0 left ≡ true = lt-ltb 0 left some in rw (linked, counted) refl

pub span_step : (link left rest i : ℕ) (s : Span) (items : List Item) (d : Item) (portion : Portion) (portions more total : List Portion) → i < length items → get_or items i d ≡ variants.Span s → s.link ≡ link → 0 < left → portion ≡ cut 0 left s → rest ≡ left - (s.to - s.from) → more ≡ portions ++ portion ∷ []
    → portions ++ portions_on link left (drop i items) ≡ total → more ++ portions_on link rest (drop (i + 1) items) ≡ total
span_step link left rest i s items d portion portions more total lt is same some portion-is rest-is more-is h =
    let here = rw (front items i d (variants.Span s) lt is, more_on link left s (drop (i + 1) items) same some) at h in
    rw (more-is, portion-is, rest-is) (append_assoc portions (cut 0 left s ∷ []) (portions_on link (left - (s.to - s.from)) (drop (i + 1) items)) ∙ here)
