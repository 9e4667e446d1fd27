use Rattle.std.proofs.Common.{rules, arith, ◌≡◌, ◌<◌, [], ◌∷◌, length, length-append, get_or, sym, ap, subst, ◌∙◌}
use Rattle.std.specs.Prelude.{IfSome}
use Rattle.std.proofs.lemmas.List.Elements.{All-push}
use Rattle.model_setup.specs.FloorSetup.{FloorSetup}
use Rattle.model_setup.specs.SetupPacket.{Submap, IsSubmap}
use Rattle.block_decoding.proofs.CurveSteps.{floor_is, curves_go_on, curves_end}
use Rattle.block_decoding.proofs.curves.read_curves.Goals as goal

pub loop-number-preserved : goal.loop-number-preserved
loop-number-preserved c =
    let setup = c.args.setup.now in
    let mapping = c.args.mapping.now in
    let i = c.loop-number.number-index in
    let lt : c.loop-number.number-index < length c.args.mapping.now.mux = omega (arith, ap length c.mux-number-items.ensures, c.loop-number-test.true) in
    let s : Submap = c.index-submaps-from.result in
    let f : FloorSetup = c.index-floors-from.result in
    let named : get_or c.args.mapping.now.mux c.loop-number.number-index 0 < length c.args.mapping.now.submaps = c.requires.mapping.mux i 0 lt in
    let s-is : c.index-submaps-from.result ≡ get_or c.args.mapping.now.submaps (get_or c.args.mapping.now.mux c.loop-number.number-index 0) c.index-submaps-from.result = search rules in
    let there : c.index-submaps-from.result.floor < length c.args.setup.now.floors =
    (subst (IsSubmap (length c.args.setup.now.floors) (length c.args.setup.now.residues)) (sym s-is) (c.requires.mapping.submaps (get_or c.args.mapping.now.mux i 0) s named)).floor in
    let f-is : c.index-floors-from.result ≡ get_or c.args.setup.now.floors c.index-submaps-from.result.floor c.index-floors-from.result = search rules in
    let read = c.in_ok-read_curve.ensures.read in
    record {
      read = curves_go_on setup mapping c.args.size i 0 mapping.mux f c.in_ok-read_curve.field-0 c.loop-number.curves.items _ c.loop-number.bits.left _ _ lt
          (floor_is setup mapping (get_or c.args.mapping.now.mux i 0) s f named there s-is f-is) (search rules) c.in_ok-push.ensures.items c.loop-number.invariant.read;
      count = omega (arith, ap length c.in_ok-push.ensures.items, length-append c.loop-number.curves.items (c.in_ok-read_curve.field-0 ∷ []), c.loop-number.invariant.count);
      sizes = rw c.in_ok-push.ensures.items (All-push (λ curve. IfSome curve (λ bins. length bins ≡ c.args.size)) c.loop-number.curves.items c.in_ok-read_curve.field-0 c.loop-number.invariant.sizes c.in_ok-read_curve.ensures.size);
      bytes = c.read_curve.ensures.bytes ∙ c.loop-number.invariant.bytes;
    }

pub returns-clause-read : goal.returns-clause-read
returns-clause-read c = curves_end c.args.setup.now c.args.mapping.now c.args.size c.loop-number.number-index c.args.mapping.now.mux c.loop-number.curves.items c.loop-number.bits.left _ (omega (arith, ap length c.mux-number-items.ensures, c.loop-number-test.false)) c.loop-number.invariant.read
