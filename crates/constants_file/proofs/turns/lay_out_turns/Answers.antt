use Rattle.std.proofs.Common.{◌≡◌, ◌∙◌, ℕ, ◌+◌, ◌-◌, ◌*◌, ◌%◌, ◌^◌, ◌<◌, ◌≤◌, ◌++◌, [], ◌∷◌, List, ℤ, ap, sym, map, arith}
use Rattle.std.specs.List.{range_with_len}
use Rattle.std.proofs.lemmas.List.FromFn.{map-range_with_len_more}
use Rattle.std.proofs.Math.Nat.{pow-le-pow_right, mod-eq_of_lt}
use Rattle.model_synthesis.specs.Tables.{turn_of}
use Rattle.constants_file.proofs.turns.lay_out_turns.Goals as goal

pub loop-exponent-preserved : goal.loop-exponent-preserved
loop-exponent-preserved c =
    let e = c.loop-exponent.exponent in
    let at = λ (n : ℕ). turn_of c.args.cosines.now (2 ^ n) in
    let low : c.loop-exponent.exponent ≤ 13 = omega arith in
    let small : 2 ^ c.loop-exponent.exponent ≤ 2 ^ 13 = pow-le-pow_right {n = 2} (omega arith) low in
    let fits : 1 * 2 ^ c.loop-exponent.exponent < 2 ^ 32 = omega arith in
    let size : (1 * 2 ^ c.loop-exponent.exponent) % 2 ^ 32 ≡ 2 ^ c.loop-exponent.exponent = mod-eq_of_lt fits ∙ omega arith in
    let count : c.loop-exponent.exponent + 1 - 6 ≡ c.loop-exponent.exponent - 6 + 1 = omega arith in
    c.in_ok-push.ensures.items
    ∙ (ap (λ (front : List (List ℤ)). front ++ c.in_ok-lay_out_turn.field-0 ∷ []) c.loop-exponent.invariant
    ∙ (ap (λ (turn : List ℤ). map at (range_with_len 6 (e - 6)) ++ turn ∷ [])
    (c.in_ok-lay_out_turn.ensures ∙ ap (turn_of c.args.cosines.now) size)
    ∙ (sym (map-range_with_len_more at 6 (e - 6) e (omega arith)) ∙ ap (λ n. map at (range_with_len 6 n)) (sym count))))

pub returns : goal.returns
returns c =
    let all : c.loop-exponent.exponent - 6 ≡ 8 = omega arith in
    c.loop-exponent.invariant ∙ ap (λ n. map (λ e. turn_of c.args.cosines.now (2 ^ e)) (range_with_len 6 n)) all
