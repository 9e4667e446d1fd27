use Rattle.std.proofs.Common.{◌∙◌, ap, sym, arith, length, List, ℕ}
use Rattle.model_cursor.specs.declared.reply.Reply.TheVariants as replies
use Rattle.model_line.specs.Blocks.{Frame}
use Rattle.model_cursor.specs.Cursors.{CursorState, passed}
use Rattle.model_cursor.specs.Positions.{state_in}
use Rattle.cursor.proofs.Inside.{inside}
use Rattle.cursor.proofs.ReadFrames.{answered}
use Rattle.cursor.proofs.SpanReads.{patch_channels, run_of, gives}
use Rattle.cursor.proofs.position.Cursor.give.Goals as goal

pub next_frames-requires-clause-fit : goal.next_frames-requires-clause-fit
next_frames-requires-clause-fit c =
    let run = run_of c.args.index.now c.args.self.now c.args.frames c.deref.result.now c.args.halves.now c.requires.halves.0 c.requires.right c.requires.position.position (c.deref.ensures.value ∙ c.in_ok-portions.ensures.portions) c.requires.halves.1 in
    run.fit

pub next_frames-requires-clause-some : goal.next_frames-requires-clause-some
next_frames-requires-clause-some c = omega (arith, c.channels.ensures)

pub next_frames-requires-clause-each : goal.next_frames-requires-clause-each
next_frames-requires-clause-each c =
    let run = run_of c.args.index.now c.args.self.now c.args.frames c.deref.result.now c.args.halves.now c.requires.halves.0 c.requires.right c.requires.position.position (c.deref.ensures.value ∙ c.in_ok-portions.ensures.portions) c.requires.halves.1 in
    rw c.channels.ensures run.each

pub next_frames-requires-clause-patch : goal.next_frames-requires-clause-patch
next_frames-requires-clause-patch c =
    let is = inside c.args.index.now c.args.self.now c.args.span c.requires.right c.requires.position.position c.requires.here in
    rw c.channels.ensures (patch_channels c.args.index.now c.args.self.now c.args.span c.requires.halves.0 c.requires.position is c.requires.halves.1.suits)

pub pass-requires-clause-some : goal.pass-requires-clause-some
pass-requires-clause-some c =
    let is = inside c.args.index.now c.args.self.now c.args.span c.requires.right c.requires.position.position c.requires.here in
    let given = gives c.args.index.now c.args.self.now c.args.span c.args.frames c.deref.result.now c.args.halves.now c.requires.right c.requires.position is c.requires.some (c.deref.ensures.value ∙ c.in_ok-portions.ensures.portions) c.requires.halves in
    omega (arith, given.some, c.count.ensures, ap (λ (fs : List Frame). length fs) c.in_ok-given.ensures)

pub pass-requires-clause-run : goal.pass-requires-clause-run
pass-requires-clause-run c =
    let is = inside c.args.index.now c.args.self.now c.args.span c.requires.right c.requires.position.position c.requires.here in
    let given = gives c.args.index.now c.args.self.now c.args.span c.args.frames c.deref.result.now c.args.halves.now c.requires.right c.requires.position is c.requires.some (c.deref.ensures.value ∙ c.in_ok-portions.ensures.portions) c.requires.halves in
    omega (arith, given.among, c.count.ensures, ap (λ (fs : List Frame). length fs) c.in_ok-given.ensures)

pub returns-clause-answer : goal.returns-clause-answer
returns-clause-answer c = λ source are.
    let is = inside c.args.index.now c.args.self.now c.args.span c.requires.right c.requires.position.position c.requires.here in
    let given = gives c.args.index.now c.args.self.now c.args.span c.args.frames c.deref.result.now c.args.halves.now c.requires.right c.requires.position is c.requires.some (c.deref.ensures.value ∙ c.in_ok-portions.ensures.portions) c.requires.halves in
    given.answer source are
    ∙ ap (λ (fs : List Frame). answered (replies.Frames c.args.span.link fs) (passed (length fs) (state_in c.args.index.now.items c.args.self.now))) (sym c.in_ok-given.ensures)
    ∙ ap (λ (k : ℕ). answered (replies.Frames c.args.span.link c.in_ok-given.given) (passed k (state_in c.args.index.now.items c.args.self.now))) (sym c.count.ensures)
    ∙ ap (λ (s : CursorState). answered (replies.Frames c.args.span.link c.in_ok-given.given) s) (sym c.pass.ensures.state)
