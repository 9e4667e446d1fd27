use Rattle.std.proofs.Common.{◌≡◌, ◌+◌, ◌++◌, ◌∷◌, [], ℕ, List, length, slice_get, Some, ap, sym, subst, refl, arith}
use Rattle.std.proofs.lemmas.List.{length_push}
use Rattle.half_sums.specs.declared.block.Block.{Block}
use Rattle.half_sums.specs.Blocks.{IsBlockFor}
use Rattle.half_sums.proofs.Filled.{each_pushed}
use Rattle.half_sums.proofs.transforms.Transforms.new.Goals as goal

pub loop-levels-preserved : goal.loop-levels-preserved
loop-levels-preserved c =
    let before = c.loop-levels.blocks.items in
    let block = c.in_ok-make_block.field-0 in
    let cosines = c.args.cosines.items in
    let count : length before + 5 ≡ c.loop-levels.levels = c.loop-levels.invariant.count in
    let pushed : c.push.new.self.items ≡ before ++ block ∷ [] = c.in_ok-push.ensures.items in
    let made : IsBlockFor (length before + 5) cosines block =
    subst (λ n. IsBlockFor n cosines block) (sym count) (subst (λ l. IsBlockFor c.loop-levels.levels l block) c.deref.ensures.value c.in_ok-make_block.ensures) in
    record {
      count = omega (arith, ap length pushed, length_push before block);
      each = subst (λ (l : List Block). (i : ℕ) (b : Block) → slice_get l i ≡ Some b → IsBlockFor (i + 5) cosines b) (sym pushed)
          (each_pushed (λ i b. IsBlockFor (i + 5) cosines b) before block (length before) refl c.loop-levels.invariant.each made);
    }
