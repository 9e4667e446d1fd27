use Rattle.std.proofs.Common.{◌≡◌, ℕ, ◌+◌, ◌≤◌, cond, nat_lt, List, drop, sum, get_or, true, None, refl, ◌∙◌, arith}
use Rattle.std.specs.List.{list_any}
use Rattle.std.proofs.lemmas.Result.{err_from_is_err_and}
use Rattle.std.proofs.lemmas.List.Sums.{sum_by-cons}
use Rattle.std.proofs.lemmas.List.{at_drop_more, take_rest}
use Rattle.ogg_packets.proofs.SegmentSteps.{segments_go_on, segments_end, segments_too_many, none_left}
use Rattle.ogg_packets.proofs.segments.join_segments.Goals as goal
use Rattle.ogg_packets.proofs.segments.join_segments.Goals.{then-is_short+in_ok-add_short, else-is_short+in_ok-pending}

pub loop-i-preserved : goal.loop-i-preserved
loop-i-preserved c =
    let laces = c.args.laces.now in
    let i = c.loop-i.i in
    let sums : sum (drop i laces) ≡ get_or laces i 0 + sum (drop (i + 1) laces) = at_drop_more sum laces i 0 c.loop-i-test.true ∙ sum_by-cons (λ x. x) (get_or laces i 0) (drop (i + 1) laces) in
    let n-is : c.from-at.result ≡ get_or laces i 0 = c.from-at.ensures in
    elim c.if-is_short.branch [
      | then-is_short+in_ok-add_short w ↦
          let short = w.if-is_short.ensures in
          let any : list_any (λ n. nat_lt n 255) (drop (i + 1) laces) ≡ true = rw (take_rest laces (i + 1)) at short.2 in
          let own : None ≡ cond (list_any (λ n. nat_lt n 255) (drop (i + 1) laces)) None c.args.mark = rw any refl in
          let one = λ (bytes : List ℕ). segments_go_on laces bytes i c.loop-i.at c.args.mark None None None _ _ _ _ c.loop-i-test.true own
          (w.in_ok-add_short.ensures.entries bytes) (none_left _ _ short.1) (rw short.0 at (c.loop-i.invariant.entries bytes)) (rw short.0 at (c.loop-i.invariant.pending bytes)) in
          rw (w.entries-is, w.pending-is, short.0, n-is) (record {
            place = omega (arith, c.loop-i.invariant.place);
            entries = λ bytes. (one bytes).0;
            pending = λ bytes. (one bytes).1;
            lies = λ end fits lie.
                let here : c.loop-i.at + get_or laces i 0 ≤ end = omega (arith, c.loop-i.invariant.place) in
                w.in_ok-add_short.ensures.lies end here (rw short.0 at (c.loop-i.invariant.lies end fits lie));
            limit = w.in_ok-add_short.ensures.limit ∙ c.loop-i.invariant.limit;
          })
      | else-is_short+in_ok-pending w ↦
          let mark-is : w.mark_before-packet_mark.result ≡ cond (list_any (λ n. nat_lt n 255) (drop (i + 1) laces)) None c.args.mark =
          rw (take_rest laces (i + 1)) at w.mark_before-packet_mark.ensures in
          let one = λ (bytes : List ℕ). segments_go_on laces bytes i c.loop-i.at c.args.mark w.mark_before-packet_mark.result _ _ _ _ _ _ c.loop-i-test.true mark-is
          (w.in_ok-pending.ensures.entries bytes) (w.in_ok-pending.ensures.pending bytes) (c.loop-i.invariant.entries bytes) (c.loop-i.invariant.pending bytes) in
          rw (w.entries-is, w.pending-is, n-is) (record {
            place = omega (arith, c.loop-i.invariant.place);
            entries = λ bytes. (one bytes).0;
            pending = λ bytes. (one bytes).1;
            lies = λ end fits lie.
                let here : c.loop-i.at + get_or laces i 0 ≤ end = omega (arith, c.loop-i.invariant.place) in
                w.in_ok-pending.ensures.lies end here (c.loop-i.invariant.lies end fits lie);
            limit = w.in_ok-pending.ensures.limit ∙ c.loop-i.invariant.limit;
          })
    ]

pub returns-clause-entries : goal.returns-clause-entries
returns-clause-entries c = λ bytes. (segments_end c.args.laces.now bytes c.loop-i.i c.loop-i.at c.args.mark _ _ _ _ c.loop-i-test.false (c.loop-i.invariant.entries bytes) (c.loop-i.invariant.pending bytes)).0

pub returns-clause-pending : goal.returns-clause-pending
returns-clause-pending c = λ bytes. (segments_end c.args.laces.now bytes c.loop-i.i c.loop-i.at c.args.mark _ _ _ _ c.loop-i-test.false (c.loop-i.invariant.entries bytes) (c.loop-i.invariant.pending bytes)).1

pub returns-in_err-add_short-clause-too_many : goal.returns-in_err-add_short-clause-too_many
returns-in_err-add_short-clause-too_many c = λ e bytes.
    let laces = c.args.laces.now in
    let i = c.loop-i.i in
    let short = c.if-is_short.ensures in
    let p = err_from_is_err_and c.from_residual.result c.from_residual.ensures.1 in
    let many = c.in_err-add_short.ensures.too_many (cc) bytes in
    let any : list_any (λ n. nat_lt n 255) (drop (i + 1) laces) ≡ true = rw (take_rest laces (i + 1)) at short.2 in
    let own : None ≡ cond (list_any (λ n. nat_lt n 255) (drop (i + 1) laces)) None c.args.mark = rw any refl in
    segments_too_many laces bytes i c.loop-i.at c.args.mark None None _ _ c.args.entries.now.limit c.loop-i-test.true own (rw c.loop-i.invariant.limit at many) (rw short.0 at (c.loop-i.invariant.entries bytes))

pub returns-in_err-pending-clause-too_many : goal.returns-in_err-pending-clause-too_many
returns-in_err-pending-clause-too_many c = λ e bytes.
    let laces = c.args.laces.now in
    let i = c.loop-i.i in
    let p = err_from_is_err_and c.from_residual-in_err-pending.result c.from_residual-in_err-pending.ensures.1 in
    let many = c.in_err-pending.ensures.too_many (cc) bytes in
    let mark-is : c.mark_before-packet_mark.result ≡ cond (list_any (λ n. nat_lt n 255) (drop (i + 1) laces)) None c.args.mark =
    rw (take_rest laces (i + 1)) at c.mark_before-packet_mark.ensures in
    segments_too_many laces bytes i c.loop-i.at c.args.mark c.mark_before-packet_mark.result _ _ _ c.args.entries.now.limit c.loop-i-test.true mark-is (rw c.loop-i.invariant.limit at many) (c.loop-i.invariant.entries bytes)
