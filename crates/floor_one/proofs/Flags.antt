-- Flagging a point among others.
use Rattle.std.proofs.Common.{◌≡◌, ◌≢◌, ℕ, ◌<◌, List, length, map, true, false, inl, inr, refl, sym, get_or-set_other, get_or-set_same}
use Rattle.std.specs.Prelude.{◌≤◌, ◌^◌, unsigned_abs, slice_set, ◌||◌, ◌==◌}
use Rattle.std.specs.List.{All}
use Rattle.std.proofs.lemmas.List.Elements.{All-set}
use Rattle.std.proofs.lemmas.Bool.{cases_eq, ne_eqb, eq-eqb}
use Rattle.std.proofs.Math.Bool.{or-true, or-false}
use Rattle.std.proofs.Math.Seq.{map-set_same}
use Rattle.model_setup.specs.declared.floor.Final.{Final}
use Rattle.model_setup.specs.FloorCurve.{final_of, no_final}

abbrev flagged : List Final → ℕ → List Final
flagged finals i = slice_set finals i (record { value = (final_of finals i).value; flagged = true })

pub values_stay : (finals : List Final) (i : ℕ) → map (λ (f : Final). f.value) (flagged finals i) ≡ map (λ (f : Final). f.value) finals
values_stay finals i = map-set_same (λ (f : Final). f.value) finals i (record { value = (final_of finals i).value; flagged = true }) no_final refl

pub one_flagged : (finals : List Final) (i k : ℕ) → i < length finals → (final_of (flagged finals i) k).flagged ≡ ((final_of finals k).flagged || i == k)
one_flagged finals i k within = elim (cases_eq k i) [
  | inl same ↦
      let e : (i == k) ≡ true = eq-eqb i k (sym same) in
      rw (e, or-true, same, get_or-set_same) refl
  | inr other ↦
      let e : (i == k) ≡ false = ne_eqb i k (λ h. other (sym h)) in
      let o : k ≢ i = other in
      rw (e, or-false, get_or-set_other) refl
]

pub still_small : (finals : List Final) (i : ℕ) → i < length finals → All (λ (f : Final). unsigned_abs f.value ≤ 2 ^ 24) finals → All (λ (f : Final). unsigned_abs f.value ≤ 2 ^ 24) (flagged finals i)
still_small finals i within h = All-set (λ (f : Final). unsigned_abs f.value ≤ 2 ^ 24) finals i (record { value = (final_of finals i).value; flagged = true }) (h i no_final within) h
