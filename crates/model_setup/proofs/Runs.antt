-- Reading the runs of an ordered book, as a loop does.
use Rattle.std.proofs.Common.{◌≡◌, ℕ, zero, suc, ◌-◌, ◌+◌, ◌≤◌, ◌<◌, List, ◌++◌, Option, Some, Result, Ok, Err, Bool, true, false, refl, sym, ap, ◌∙◌, append_assoc, arith, replicate, cond}
use Rattle.std.proofs.lemmas.List.{append-nil}
use Rattle.std.proofs.lemmas.Bool.Decides.{nat_tests}
use Rattle.std.specs.Prelude.{nat_le}
use Rattle.model_bits.specs.Reading.{then_read, give}
use Rattle.model_setup.specs.BookReading.{runs_at, field, ilog}
use Rattle.model_setup.specs.declared.book.BookFault.{BookFault}
use Rattle.model_setup.specs.declared.book.BookFault.TheVariants.{Tree}
use Rattle.model_bits.proofs.Times.{with_front}

abbrev Lengths : Type 0
Lengths = Result (List (Option ℕ) × List Bool) BookFault

regroup : (front more : List (Option ℕ)) (reading : Lengths) → with_front front (then_read reading (λ xs. give (more ++ xs))) ≡ with_front (front ++ more) reading
regroup front more (Ok y) = ap (λ ns. Ok (ns, y.1)) (sym (append_assoc front more y.0))
regroup front more (Err e) = refl

-- one run, by whether it fits
abbrev one_run : ℕ → ℕ → ℕ → ℕ → List Bool → Bool → Lengths
one_run more len remain run after fits =
    then_read {A = ℕ} (cond fits (Ok (0, after)) (Err Tree)) (λ x left. then_read (runs_at more (len + 1) (remain - run) left) (λ others. give (replicate run (Some len) ++ others)))

reads_run : (more len r run : ℕ) (left after : List Bool) → field (ilog (suc r)) left ≡ Ok (run, after) → runs_at (suc more) len (suc r) left ≡ one_run more len (suc r) run after (nat_le run (suc r))
unfolding runs_at
reads_run more len r run left after h = rw h refl

module _ (front : List (Option ℕ)) (len remain : ℕ) (left : List Bool) (total : Lengths) (some : 0 < remain) (so_far : with_front front (runs_at (33 - len) len remain left) ≡ total) where
  pub runs_go_on : (run : ℕ) (after : List Bool) → len ≤ 32 → field (ilog remain) left ≡ Ok (run, after) → run ≤ remain
      → with_front (front ++ replicate run (Some len)) (runs_at (33 - (len + 1)) (len + 1) (remain - run) after) ≡ total
  runs_go_on run after short h fits =
      let k : 33 - len ≡ suc (33 - (len + 1)) = omega arith in
      let r : remain ≡ suc (remain - 1) = omega arith in
      let g : field (ilog (suc (remain - 1))) left ≡ Ok (run, after) = rw r at h in
      let t : nat_le run (suc (remain - 1)) ≡ true = grind (arith, nat_tests) in
      let u : runs_at (suc (33 - (len + 1))) len (suc (remain - 1)) left ≡ one_run (33 - (len + 1)) len (suc (remain - 1)) run after true = reads_run (33 - (len + 1)) len (remain - 1) run left after g ∙ ap (one_run (33 - (len + 1)) len (suc (remain - 1)) run after) t in
      let v : with_front front (runs_at (33 - len) len remain left) ≡ with_front front (one_run (33 - (len + 1)) len (suc (remain - 1)) run after true) = ap (with_front front) (ap (λ m. runs_at m len remain left) k ∙ ap (λ m. runs_at (suc (33 - (len + 1))) len m left) r ∙ u) in
      let w : suc (remain - 1) - run ≡ remain - run = omega arith in
      ap (λ m. with_front (front ++ replicate run (Some len)) (runs_at (33 - (len + 1)) (len + 1) m after)) (sym w) ∙ sym (regroup front (replicate run (Some len)) (runs_at (33 - (len + 1)) (len + 1) (suc (remain - 1) - run) after)) ∙ sym v ∙ so_far

  pub run_too_long : (run : ℕ) (after : List Bool) → len ≤ 32 → field (ilog remain) left ≡ Ok (run, after) → remain < run → total ≡ Err Tree
  run_too_long run after short h large =
      let k : 33 - len ≡ suc (33 - (len + 1)) = omega arith in
      let r : remain ≡ suc (remain - 1) = omega arith in
      let g : field (ilog (suc (remain - 1))) left ≡ Ok (run, after) = rw r at h in
      let t : nat_le run (suc (remain - 1)) ≡ false = grind (arith, nat_tests) in
      let u = reads_run (33 - (len + 1)) len (remain - 1) run left after g ∙ ap (one_run (33 - (len + 1)) len (suc (remain - 1)) run after) t in
      sym so_far ∙ ap (with_front front) (ap (λ m. runs_at m len remain left) k ∙ ap (λ m. runs_at (suc (33 - (len + 1))) len m left) r ∙ u)

  pub run_fails : (e : BookFault) → len ≤ 32 → field (ilog remain) left ≡ Err e → total ≡ Err e
  unfolding runs_at
  run_fails e short h =
      let k : 33 - len ≡ suc (33 - (len + 1)) = omega arith in
      let r : remain ≡ suc (remain - 1) = omega arith in
      let g : field (ilog (suc (remain - 1))) left ≡ Err e = rw r at h in
      let u : runs_at (suc (33 - (len + 1))) len (suc (remain - 1)) left ≡ Err e = rw g refl in
      sym so_far ∙ ap (with_front front) (ap (λ m. runs_at m len remain left) k ∙ ap (λ m. runs_at (suc (33 - (len + 1))) len m left) r ∙ u)

  pub runs_above : 32 < len → total ≡ Err Tree
  unfolding runs_at
  runs_above long =
      let k : 33 - len ≡ 0 = omega arith in
      let r : remain ≡ suc (remain - 1) = omega arith in
      sym so_far ∙ ap (with_front front) (ap (λ m. runs_at m len remain left) k ∙ ap (λ m. runs_at 0 len m left) r)

pub runs_end : (front : List (Option ℕ)) (more len remain : ℕ) (left : List Bool) (total : Lengths) → remain ≡ 0 → with_front front (runs_at more len remain left) ≡ total → total ≡ Ok (front, left)
unfolding runs_at
runs_end front zero len remain left total none so_far = sym so_far ∙ ap (λ m. with_front front (runs_at 0 len m left)) none ∙ ap (λ ns. Ok (ns, left)) (append-nil front)
runs_end front (suc more) len remain left total none so_far = sym so_far ∙ ap (λ m. with_front front (runs_at (suc more) len m left)) none ∙ ap (λ ns. Ok (ns, left)) (append-nil front)
