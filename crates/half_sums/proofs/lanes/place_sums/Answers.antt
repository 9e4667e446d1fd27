use Rattle.std.proofs.Common.{◌≡◌, ◌<◌, ◌∙◌, ap, sym, length, slice_get, slice_index, slice_index_or, Some, inl, inr, false, arith, rules, to_z, of_z, w64}
use Rattle.std.proofs.lemmas.Bool.{cases_lt}
use Rattle.std.proofs.lemmas.Int.{to_z-of_z}
use Rattle.half_sums.specs.declared.places.Place.{Place}
use Rattle.half_sums.specs.Places.{signed}
use Rattle.half_sums.proofs.Filled.{get_within, get_at, set_target}
use Rattle.half_sums.proofs.ShareSums.{lowered_is}
use Rattle.half_sums.proofs.lanes.place_sums.Goals as goal

pub loop-a-preserved : goal.loop-a-preserved
loop-a-preserved c z target values agree i p below got =
    let a = c.loop-a.a in
    let place = slice_index_or c.args.places.now a (record { index = 0; negative = false }) in
    let within : a < length c.args.places.now = omega arith in
    let here : slice_get c.args.places.now a ≡ Some place = get_at c.args.places.now a (record { index = 0; negative = false }) within in
    let read : to_z w64 (of_z w64 c.lowered.result) ≡ c.lowered.result = to_z-of_z w64 c.lowered.result (search rules) in
    let passed : to_z w64 (of_z w64 c.with_sign.result) ≡ c.with_sign.result = to_z-of_z w64 c.with_sign.result (search rules) in
    let written : to_z w64 (of_z w64 c.with_sign.result) ≡ target place.index =
    passed ∙ (c.with_sign.ensures ∙ (ap (signed place.negative) (read ∙ lowered_is c.lowered.result (z a) c.args.raised (slice_index c.args.values.now a) c.lowered.ensures.value (values a (omega arith))) ∙ agree a place here)) in
    let room : place.index < length c.loop-a.sums = omega (arith, c.requires.index a place here) in
    set_target c.loop-a.sums place.index _ target p.index room written (λ other.
    elim (cases_lt i a) [
      | inl before ↦ c.loop-a.invariant z target values agree i p before got
      | inr now ↦
          let same : i ≡ a = omega arith in
          let got_here : slice_get c.args.places.now a ≡ Some p = ap (λ k. slice_get c.args.places.now k) (sym same) ∙ got in
          let one : p ≡ place = cc in
          absurd (other (ap (λ (q : Place). q.index) one))
    ])

pub returns : goal.returns
returns c z target values agree i p got =
    let within : i < length c.args.places.now = get_within c.args.places.now i p got in
    c.loop-a.invariant z target values agree i p (omega arith) got
