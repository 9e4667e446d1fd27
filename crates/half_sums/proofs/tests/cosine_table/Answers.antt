use Rattle.std.proofs.Common.{◌≡◌, ◌≤◌, ◌^◌, ◌++◌, ◌∷◌, [], ℕ, length, get_or, ap, sym, subst, arith}
use Rattle.std.proofs.lemmas.List.{length_push}
use Rattle.half_sums.proofs.Pushed.{small_pushed}
use Rattle.half_sums.proofs.tests.cosine_table.Goals as goal

pub loop-k-preserved : goal.loop-k-preserved
loop-k-preserved c =
    let before = c.loop-k.values.items in
    let pushed : c.push.new.self.items ≡ before ++ c.cosine.result ∷ [] = c.in_ok-push.ensures.items in
    record {
      count = omega (arith, ap length pushed, length_push before c.cosine.result);
      small = subst (λ l. (i : ℕ) → get_or l i 0 ≤ 2 ^ 23) (sym pushed) (small_pushed (2 ^ 23) before c.cosine.result c.cosine.ensures c.loop-k.invariant.small);
    }
