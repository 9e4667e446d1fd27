use Rattle.std.proofs.Common.{◌≡◌, ◌∙◌, ℕ, ◌+◌, ◌*◌, ◌++◌, [], ◌∷◌, List, ℤ, ap, sym, map, rules, w32, to_z, of_z, arith}
use Rattle.std.specs.List.{range_with_len}
use Rattle.std.proofs.lemmas.Int.{to_z-of_z}
use Rattle.std.proofs.lemmas.List.FromFn.{map-range_with_len_more}
use Rattle.model_synthesis.specs.Tables.{first_quarter, wave, turn_of}
use Rattle.model_synthesis.proofs.Waves.{wave_within}
use Rattle.constants_file.proofs.turns.lay_out_turn.Goals as goal

pub loop-place-preserved : goal.loop-place-preserved
loop-place-preserved c =
    let place = c.loop-place.place in
    let quarter = first_quarter c.args.cosines.now c.args.block in
    let at = λ (j : ℕ). wave c.args.block (first_quarter c.args.cosines.now c.args.block) (2 * j + 1) in
    let here : to_z w32 (of_z w32 c.cosine.result) ≡ wave c.args.block (first_quarter c.args.cosines.now c.args.block) (2 * c.loop-place.place + 1) =
    to_z-of_z w32 c.cosine.result (search rules)
    ∙ (c.cosine.ensures ∙ sym (wave_within c.args.block quarter (2 * place + 1) (omega arith))) in
    c.in_ok-push.ensures.items
    ∙ (ap (λ (front : List ℤ). front ++ to_z w32 (of_z w32 c.cosine.result) ∷ []) c.loop-place.invariant
    ∙ (ap (λ (v : ℤ). map at (range_with_len 0 place) ++ v ∷ []) here
    ∙ sym (map-range_with_len_more at 0 place place (omega arith))))

pub returns : goal.returns
unfolding turn_of
returns c =
    let at = λ (j : ℕ). wave c.args.block (first_quarter c.args.cosines.now c.args.block) (2 * j + 1) in
    let all : c.loop-place.place ≡ 2 * c.args.block = omega arith in
    c.of.ensures ∙ (c.loop-place.invariant ∙ ap (λ n. map at (range_with_len 0 n)) all)
