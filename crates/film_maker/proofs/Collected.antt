-- Values that are drawn one after the other, as a list.
use Rattle.std.proofs.Common.{◌≡◌, ℕ, suc, ◌+◌, ◌-◌, ◌<◌, List, [], ◌∷◌, ◌++◌, sym, ap, ◌∙◌, arith, append_assoc}
use Rattle.rand_pcg.specs.Lcg.{Lcg}
use Rattle.model_trial.specs.Draws.{Draw, draws}

module _ {A : Type 0} (m : Draw A) where
  -- what is drawn so far, and the values that are still drawn
  abbrev pub collected : List A → ℕ → Lcg → List A × Lcg
  collected xs n g = (xs ++ (draws n m g).0, (draws n m g).1)

  pub one_collected : (xs after : List A) (x : A) (count i : ℕ) (g h : Lcg) → i < count → after ≡ xs ++ x ∷ [] → let now : A × Lcg = (x, h) in now ≡ m g
      → collected after (count - (i + 1)) h ≡ collected xs (count - i) g
  one_collected xs after x count i g h low now is =
      let more : count - i ≡ suc (count - (i + 1)) = omega arith in
      ap (λ (ys : List A). collected ys (count - (i + 1)) h) now
      ∙ ap (λ (p : A × Lcg). collected (xs ++ p.0 ∷ []) (count - (i + 1)) p.1) is
      ∙ ap (λ (ys : List A). (ys, (draws (count - (i + 1)) m (m g).1).1)) (append_assoc xs ((m g).0 ∷ []) (draws (count - (i + 1)) m (m g).1).0)
      ∙ sym (ap (λ k. collected xs k g) more)
