-- A list that is written place by place.
use Rattle.std.proofs.Common.{◌≡◌, refl, ℕ, zero, suc, ◌+◌, ◌-◌, ◌<◌, ◌≤◌, ◌≢◌, ◌∙◌, inl, inr, List, [], ◌∷◌, ◌++◌, length, ℤ, pos, ap, subst, sym, arith}
use Rattle.std.proofs.Math.ListN.{set}
use Rattle.std.proofs.lemmas.Bool.{cases_eq, cases_lt}
use Rattle.std.proofs.lemmas.List.{get_or-set_same, get_or-set_other, get_or_append_left, get_or-append_right}
use Rattle.model_synthesis.specs.Transform.{IsBlockValue}
use Rattle.model_synthesis.specs.Windows.{AreBlockValues}
use Rattle.model_synthesis.specs.Overlaps.{value_at}

-- below a place the list has f's values, from there on those that it had
pub record IsWritten (f : ℕ → ℤ) (old : List ℤ) (at : ℕ) (new : List ℤ) : Type 0 where
  pub done : (i : ℕ) → i < at → value_at new i ≡ f i
  pub rest : (i : ℕ) → at ≤ i → value_at new i ≡ value_at old i
  pub small : AreBlockValues new

pub written_more : (f : ℕ → ℤ) (old new : List ℤ) (at : ℕ) (v : ℤ) → IsWritten f old at new → at < length new → v ≡ f at → IsBlockValue v → IsWritten f old (at + 1) (set new at v)
written_more f old new at v is within value small = record {
  done = λ i before. elim (cases_eq i at) [
    | inl same ↦ at_place i same ∙ (value ∙ ap f (sym same))
    | inr other ↦ elsewhere i other ∙ is.done i (omega arith)
  ];
  rest = λ i behind. let other : i ≢ at = omega arith in elsewhere i other ∙ is.rest i (omega arith);
  small = λ i. elim (cases_eq i at) [
    | inl same ↦ subst IsBlockValue (sym (at_place i same)) small
    | inr other ↦ subst IsBlockValue (sym (elsewhere i other)) (is.small i)
  ];
}
  where
    at_place : (i : ℕ) → i ≡ at → value_at (set new at v) i ≡ v
    at_place i same = ap (λ k. value_at (set new at v) k) same ∙ get_or-set_same new at v (pos 0) within

    elsewhere : (i : ℕ) → i ≢ at → value_at (set new at v) i ≡ value_at new i
    elsewhere i other = get_or-set_other new at i v (pos 0) other

-- one value more at the end
pub values_more : (xs : List ℤ) (v : ℤ) → AreBlockValues xs → IsBlockValue v → AreBlockValues (xs ++ v ∷ [])
values_more xs v are is i = elim (cases_lt i (length xs)) [
  | inl low ↦ subst IsBlockValue (sym (get_or_append_left xs (v ∷ []) (pos 0) i low)) (are i)
  | inr high ↦ subst IsBlockValue (sym (get_or-append_right xs (v ∷ []) (length xs) i (pos 0) refl high)) (last (i - length xs))
]
  where
    last : (k : ℕ) → IsBlockValue (value_at (v ∷ []) k)
    last zero = is
    last (suc k) = omega arith
