use Rattle.std.proofs.Common.{◌≡◌, ◌≤◌, ◌<◌, ◌∙◌, ap, sym, arith, true, false, List, length, ℕ}
use Rattle.std.specs.List.{All}
use borrow.Author.Tests.{ltb-true}
use Rattle.model_line.specs.Origins.{listed}
use Rattle.model_line.specs.Decode.{LineItem}
use Rattle.model_line.specs.Blocks.{Frame}
use Rattle.model_cursor.specs.Runs.{run_at}
use Rattle.model_cursor.specs.Cursors.{CursorState}
use Rattle.model_cursor.specs.Plans.{splicing_of}
use Rattle.model_cursor.specs.Positions.{Position, state_in}
use Rattle.model_cursor.specs.Sources.{Source, line_from, channels_in}
use Rattle.model_cursor.specs.Splices.{splice, link_at}
use Rattle.cursor.specs.Portions.{HasChannels}
use Rattle.cursor.proofs.CursorRuns.{place_of, length-run_there}
use Rattle.cursor.proofs.CursorStates.{patch_set}
use Rattle.cursor.proofs.Spliced.{splice_empty, splice_fits, splice_channels}
use Rattle.cursor.proofs.position.Cursor.finish_cross.Goals as goal

pub returns-then-not-has_frame-clause-answer : goal.returns-then-not-has_frame-clause-answer
returns-then-not-has_frame-clause-answer c = λ source are.
    let test : c.has_frame.result ≡ false = c.if-not-has_frame.true in
    let none = splice_empty c.args.constants.now c.args.index.now c.args.self.now c.args.new.now source c.has_frame.ensures.right are.suits (sym c.has_frame.ensures.frame ∙ test) in
    ap (λ (fs : List Frame). let s : CursorState = record { place = place_of c.args.index.now c.args.new.now; patch = fs } in s) none
    ∙ ap (λ (p : Position). state_in c.args.index.now.items p) (sym c.set_patch.ensures)

pub returns-clause-position : goal.returns-clause-position
returns-clause-position c =
    let test : c.has_frame.result ≡ true = c.if-not-has_frame.false in
    let source : Source = c.requires.halves.0 in
    let right = c.has_frame.ensures.right in
    let suits = c.requires.halves.1.suits in
    let line : List (LineItem Frame) = line_from source c.args.index.now.items in
    let some : 0 < length (run_at (listed c.args.index.now.items) (place_of c.args.index.now c.args.new.now)) = ltb-true 0 _ (sym c.has_frame.ensures.frame ∙ test) in
    let patch : c.in_ok-patch.patch ≡ splice (splicing_of c.args.constants.now c.args.index.now) line (state_in c.args.index.now.items c.args.self.now) (place_of c.args.index.now c.args.new.now) = c.in_ok-patch.ensures source (rw c.items.ensures c.requires.halves.1) in
    let fits = splice_fits (splicing_of c.args.constants.now c.args.index.now) line (state_in c.args.index.now.items c.args.self.now) (place_of c.args.index.now c.args.new.now) in
    let few : length c.in_ok-patch.patch ≤ length (run_at (listed c.args.index.now.items) (place_of c.args.index.now c.args.new.now)) = omega (arith, fits, ap (λ (fs : List Frame). length fs) patch, length-run_there c.args.index.now source (place_of c.args.index.now c.args.new.now) right suits) in
    let each = splice_channels (splicing_of c.args.constants.now c.args.index.now) c.args.index.now (state_in c.args.index.now.items c.args.self.now) c.args.new.now source right c.requires.new.position suits some in
    let channels : ℕ = channels_in c.args.index.now.links (link_at (length c.args.index.now.links) (listed c.args.index.now.items) (place_of c.args.index.now c.args.new.now)) in
    let all : All (HasChannels channels) c.in_ok-patch.patch = rw patch each in
    rw c.set_patch-2.ensures (patch_set c.args.index.now c.args.new.now c.in_ok-patch.patch c.requires.new few all)
