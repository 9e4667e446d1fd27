use Rattle.std.proofs.Common.{◌≡◌, ◌≤◌, ◌<◌, ◌+◌, ◌^◌, ℕ, ℤ, pos, List, [], ◌∷◌, length, Bool, true, false, refl, arith, Some}
use Rattle.std.specs.Prelude.{replicate, slice_get}
use Rattle.std.specs.Bool.{OnTrue}
use Rattle.std.specs.List.{All}
use Rattle.std.proofs.lemmas.Bool.{leb-true}
use Rattle.std.proofs.lemmas.List.Elements.{All-cons, All-nil, All-replicate}
use Rattle.model_synthesis.specs.Transform.{IsBlockValue}
use Rattle.model_line.specs.declared.item.Span.{Span}
use Rattle.model_line.specs.declared.item.LinkFacts.{LinkFacts}
use Rattle.model_line.specs.Blocks.{len_of, IsHalfBlock}
use Rattle.model_cursor.specs.Sources.{channels_in, SpanSuits}
use Rattle.cursor.proofs.tests.item_suits.Goals as goal

on_true : (b : Bool) (P : Type 0) → (b ≡ true → P) → OnTrue b P
on_true true P h = h refl
on_true false P h = tt

half : (n : ℕ) → n ≤ 2 ^ 39 → IsHalfBlock 1 (replicate 32 (pos n) ∷ [])
half n small =
    let values : List ℤ = replicate 32 (pos n) in
    let P : List ℤ → Type 0 = λ vs. length vs ≡ len_of (values ∷ []) in
    record {
      some = omega arith;
      count = refl;
      size = record { exponent = 6; at_least_64 = omega arith; at_most_8192 = omega arith; is_power = refl };
      sizes = All-cons P values [] refl (All-nil P);
      small = All-cons (All IsBlockValue) values [] (All-replicate IsBlockValue 32 (pos n) small) (All-nil (All IsBlockValue));
    }

suits : (links : List LinkFacts) (s : Span) (facts : LinkFacts) → slice_get links s.link ≡ Some facts → facts.channels ≡ 1 → s.block < 2 ^ 32 → s.to ≤ 32 → SpanSuits links (λ need. replicate 32 (pos need.block) ∷ []) s
suits links s facts link one block within =
    let channels : channels_in links s.link ≡ 1 = rw (link, one) refl in
    record {
      right = rw channels (half s.block (omega arith));
      left = rw channels (half (s.block + 1) (omega arith));
      within = within;
    }

pub returns : goal.returns
returns c = rw c.in-Span.is (on_true _ _ (λ e. suits _ _ _ c.link-facts.ensures c.if-facts-ne1.false (omega arith) (leb-true _ _ e)))
