use Rattle.std.proofs.Common.{◌-◌, ◌/◌, ℕ, length, take, drop, sym, ap, ◌∙◌, List, ℤ, length-drop}
use Rattle.std.proofs.Math.Seq.{take-length}
use Rattle.model_cursor.specs.FrameLists.{values_of}
use Rattle.model_cursor.proofs.Parts.{values_of-parts_of}
use Rattle.cursor.proofs.patch.Patch.left.Goals as goal

pub returns : goal.returns
returns c =
    let patch = c.self.inside in
    let left : List ℤ = drop patch.used patch.values.items in
    ap (λ (vs : List ℤ). take (length vs - patch.used) (drop patch.used vs)) c.deref.ensures.value
    ∙ ap (λ (k : ℕ). take k left) (sym (length-drop patch.used patch.values.items))
    ∙ take-length left
    ∙ sym (values_of-parts_of (length left / patch.channels) patch.channels left c.self.invariant.2)
    ∙ ap (λ (fs : List (List ℤ)). values_of fs) c.self.view_is
