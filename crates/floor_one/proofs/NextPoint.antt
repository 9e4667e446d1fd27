-- The points so far with their flags renewed, and one more behind them.
use Rattle.std.proofs.Common.{◌≡◌, ℕ, ◌<◌, List, [], ◌∷◌, ◌++◌, length, refl, sym, ap, ◌∙◌, arith}
use Rattle.std.specs.List.{refill}
use Rattle.std.proofs.Math.ListN.{get_or-append}
use Rattle.std.proofs.lemmas.List.{length-map}
use Rattle.model_setup.specs.declared.floor.Final.{Final}
use Rattle.model_setup.specs.FloorCurve.{final_of, no_final}
use Rattle.floor_one.specs.Curves.{values_in}
use Rattle.floor_one.proofs.Ordered.{refill_all}

module _ (old flagged new : List Final) (next : Final) (same : values_in flagged ≡ values_in old) (pushed : new ≡ refill (length old) old flagged ++ next ∷ []) where
  pub as_many : length flagged ≡ length old
  as_many = sym (length-map flagged (λ (f : Final). f.value)) ∙ ap length same ∙ length-map old (λ (f : Final). f.value)

  all : new ≡ flagged ++ next ∷ []
  all = pushed ∙ ap (λ fs. fs ++ next ∷ []) (refill_all old flagged as_many)

  map_push : (fs : List Final) → values_in (fs ++ next ∷ []) ≡ values_in fs ++ next.value ∷ []
  map_push [] = refl
  map_push (f ∷ fs) = ap (λ vs. f.value ∷ vs) (map_push fs)

  pub values_behind : values_in new ≡ values_in old ++ next.value ∷ []
  values_behind = ap values_in all ∙ map_push flagged ∙ ap (λ vs. vs ++ next.value ∷ []) same

  pub final_before : (k : ℕ) → k < length old → final_of new k ≡ final_of flagged k
  final_before k within =
      ap (λ fs. final_of fs k) all ∙ get_or-append flagged (next ∷ []) no_final k (omega (arith, as_many))
