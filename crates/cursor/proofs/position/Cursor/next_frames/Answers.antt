use Rattle.std.proofs.Common.{◌≡◌, ◌∙◌, ◌++◌, ap, arith, length, take, drop, List, ℤ}
use Rattle.model_line.specs.Blocks.{Frame}
use Rattle.model_cursor.specs.FrameLists.{values_of}
use Rattle.model_cursor.specs.Positions.{Position}
use Rattle.cursor.specs.Patches.{patched}
use Rattle.cursor.specs.Portions.{frames_from}
use Rattle.cursor.proofs.FrameValues.{whole_values, frames_of_values, patched_values, patched_each, written_back}
use Rattle.cursor.proofs.position.Cursor.next_frames.Goals as goal

pub of-requires-clause-whole : goal.of-requires-clause-whole
of-requires-clause-whole c =
    let patch : List Frame = c.args.self.now.patch in
    let fs : List Frame = frames_from c.args.portions.now c.args.halves.now in
    let written : take c.in_ok-values.values.len (c.lay_over.new.values ++ drop (length c.lay_over.new.values) c.in_ok-values.values.items) ≡ values_of (patched patch fs) =
    written_back c.in_ok-values.values.len c.in_ok-values.values.items c.lay_over.new.values (omega arith) (omega arith)
    ∙ c.lay_over.ensures
    ∙ ap (λ (p : Position). patched (values_of p.patch) c.deref_mut.result.now) c.self.view_is
    ∙ ap (λ (vs : List ℤ). patched (values_of patch) vs) (c.deref_mut.ensures.value ∙ c.in_ok-values.ensures)
    ∙ patched_values c.args.channels patch fs c.requires.patch c.requires.each in
    whole_values c.args.channels (patched patch fs) _ c.requires.some (patched_each c.args.channels patch fs c.requires.patch c.requires.each) written

pub returns : goal.returns
returns c =
    let patch : List Frame = c.args.self.now.patch in
    let fs : List Frame = frames_from c.args.portions.now c.args.halves.now in
    let written : take c.in_ok-values.values.len (c.lay_over.new.values ++ drop (length c.lay_over.new.values) c.in_ok-values.values.items) ≡ values_of (patched patch fs) =
    written_back c.in_ok-values.values.len c.in_ok-values.values.items c.lay_over.new.values (omega arith) (omega arith)
    ∙ c.lay_over.ensures
    ∙ ap (λ (p : Position). patched (values_of p.patch) c.deref_mut.result.now) c.self.view_is
    ∙ ap (λ (vs : List ℤ). patched (values_of patch) vs) (c.deref_mut.ensures.value ∙ c.in_ok-values.ensures)
    ∙ patched_values c.args.channels patch fs c.requires.patch c.requires.each in
    c.of.ensures ∙ frames_of_values c.args.channels (patched patch fs) _ c.requires.some (patched_each c.args.channels patch fs c.requires.patch c.requires.each) written
