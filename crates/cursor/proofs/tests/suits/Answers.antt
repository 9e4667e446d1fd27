use Rattle.std.proofs.Common.{◌≡◌, ◌≤◌, ℕ, zero, suc, List, [], ◌∷◌, true, length, take, refl, ap, sym, arith, pos}
use Rattle.std.specs.Prelude.{replicate}
use Rattle.model_line.specs.declared.item.Item.{Item}
use Rattle.model_line.specs.declared.item.Item.TheVariants as variants
use Rattle.model_cursor.specs.Sources.{ItemSuits}
use Rattle.std.proofs.lemmas.List.Elements.{All-more}
use Rattle.cursor.proofs.tests.suits.Goals as goal

take_past : {A : Type 0} (n : ℕ) (xs : List A) → length xs ≤ n → take n xs ≡ xs
take_past zero [] h = refl
take_past zero (x ∷ xs) h = absurd (omega arith)
take_past (suc n) [] h = refl
take_past (suc n) (x ∷ xs) h = ap (λ ys. x ∷ ys) (take_past n xs (omega arith))

pub loop-item-preserved : goal.loop-item-preserved
loop-item-preserved c =
    let yes : c.item_suits-fits.result ≡ true = cc in
    let none : Item = variants.Span (record { link = 0; block = 0; from = 0; to = 0; start = 0 }) in
    All-more (ItemSuits c.args.index.now.links (λ need. replicate 32 (pos need.block) ∷ [])) c.items-items.result.now c.loop-item.item-index none c.loop-item-test.true c.loop-item.invariant (rw yes at c.item_suits-fits.ensures)

pub returns : goal.returns
returns c = rw (sym c.items-items.ensures.value) (rw (take_past _ _ c.loop-item-test.false) at c.loop-item.invariant)
