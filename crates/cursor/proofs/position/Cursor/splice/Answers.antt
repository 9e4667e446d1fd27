use Rattle.std.proofs.Common.{◌≡◌, ◌<◌, ◌*◌, ◌∙◌, ap, arith, refl, length, drop, List, ℕ}
use Rattle.std.specs.List.{All}
use Rattle.std.proofs.lemmas.Bool.{lt-ltb}
use Rattle.std.proofs.lemmas.List.{length-take}
use Rattle.model_line.specs.Blocks.{Values, Frame}
use Rattle.model_cursor.specs.Runs.{run_at}
use Rattle.model_cursor.specs.Sources.{line_from}
use Rattle.model_cursor.specs.Splices.{mixed_from}
use Rattle.cursor.specs.declared.portions.Portion.{Portion}
use Rattle.cursor.specs.Patches.{patched}
use Rattle.cursor.specs.Portions.{run_portions, frames_from, HasChannels}
use Rattle.cursor.proofs.CursorRuns.{place_of}
use Rattle.cursor.proofs.FrameValues.{whole_values, frames_of_values}
use Rattle.cursor.proofs.MixSteps.{filled}
use Rattle.cursor.proofs.Spliced.{patch_each, mixed_each, are_sides, spliced}
use Rattle.cursor.proofs.position.Cursor.splice.Goals as goal

pub next_frames-requires-clause-fit : goal.next_frames-requires-clause-fit
next_frames-requires-clause-fit c =
    let sides = are_sides c.args.index.now c.args.self.now c.args.new.now c.splice_len-frames.result c.in_ok-first.first.items (run_portions c.args.index.now.items c.args.new.now c.splice_len-frames.result) c.args.halves.now c.requires.halves.0 c.in_ok-first.ensures.right c.requires.position.position c.requires.new.position c.requires.halves.1.suits (lt-ltb 0 _ c.requires.some) c.splice_len-frames.ensures c.in_ok-first.ensures.portions refl c.requires.halves.1.halves in
    rw c.deref.ensures.value sides.old.fit

pub next_frames-requires-clause-each : goal.next_frames-requires-clause-each
next_frames-requires-clause-each c =
    let sides = are_sides c.args.index.now c.args.self.now c.args.new.now c.splice_len-frames.result c.in_ok-first.first.items (run_portions c.args.index.now.items c.args.new.now c.splice_len-frames.result) c.args.halves.now c.requires.halves.0 c.in_ok-first.ensures.right c.requires.position.position c.requires.new.position c.requires.halves.1.suits (lt-ltb 0 _ c.requires.some) c.splice_len-frames.ensures c.in_ok-first.ensures.portions refl c.requires.halves.1.halves in
    rw (c.deref.ensures.value, c.channels.ensures) sides.old.each

pub next_frames-requires-clause-patch : goal.next_frames-requires-clause-patch
next_frames-requires-clause-patch c = rw c.channels.ensures (patch_each c.args.index.now c.args.self.now c.requires.halves.0 c.in_ok-first.ensures.right c.requires.position c.requires.halves.1.suits)

pub halves_behind-rest-requires : goal.halves_behind-rest-requires
halves_behind-rest-requires c =
    let sides = are_sides c.args.index.now c.args.self.now c.args.new.now c.splice_len-frames.result c.in_ok-first.first.items (run_portions c.args.index.now.items c.args.new.now c.splice_len-frames.result) c.args.halves.now c.requires.halves.0 c.in_ok-first.ensures.right c.requires.position.position c.requires.new.position c.requires.halves.1.suits (lt-ltb 0 _ c.requires.some) c.splice_len-frames.ensures c.in_ok-first.ensures.portions refl c.requires.halves.1.halves in
    omega (arith, sides.few, c.len.ensures, c.in_ok-first.first.ok)

pub run_frames-requires-clause-fit : goal.run_frames-requires-clause-fit
run_frames-requires-clause-fit c =
    let sides = are_sides c.args.index.now c.args.self.now c.args.new.now c.splice_len-frames.result c.in_ok-first.first.items c.in_ok-second.second.items c.args.halves.now c.requires.halves.0 c.in_ok-first.ensures.right c.requires.position.position c.requires.new.position c.requires.halves.1.suits (lt-ltb 0 _ c.requires.some) c.splice_len-frames.ensures c.in_ok-first.ensures.portions c.in_ok-second.ensures.portions c.requires.halves.1.halves in
    let count : c.len.result ≡ length c.in_ok-first.first.items = omega (arith, c.len.ensures, c.in_ok-first.first.ok) in
    rw (c.deref-2.ensures.value, c.halves_behind-rest.ensures, count) sides.fresh.fit

pub run_frames-requires-clause-each : goal.run_frames-requires-clause-each
run_frames-requires-clause-each c =
    let sides = are_sides c.args.index.now c.args.self.now c.args.new.now c.splice_len-frames.result c.in_ok-first.first.items c.in_ok-second.second.items c.args.halves.now c.requires.halves.0 c.in_ok-first.ensures.right c.requires.position.position c.requires.new.position c.requires.halves.1.suits (lt-ltb 0 _ c.requires.some) c.splice_len-frames.ensures c.in_ok-first.ensures.portions c.in_ok-second.ensures.portions c.requires.halves.1.halves in
    let count : c.len.result ≡ length c.in_ok-first.first.items = omega (arith, c.len.ensures, c.in_ok-first.first.ok) in
    rw (c.deref-2.ensures.value, c.halves_behind-rest.ensures, count, c.channels-channels.ensures) sides.fresh.each

pub mix-requires : goal.mix-requires
mix-requires c =
    let sides = are_sides c.args.index.now c.args.self.now c.args.new.now c.splice_len-frames.result c.in_ok-first.first.items c.in_ok-second.second.items c.args.halves.now c.requires.halves.0 c.in_ok-first.ensures.right c.requires.position.position c.requires.new.position c.requires.halves.1.suits (lt-ltb 0 _ c.requires.some) c.splice_len-frames.ensures c.in_ok-first.ensures.portions c.in_ok-second.ensures.portions c.requires.halves.1.halves in
    let count : c.len.result ≡ length c.in_ok-first.first.items = omega (arith, c.len.ensures, c.in_ok-first.first.ok) in
    let fresh : c.in_ok-fresh.fresh ≡ frames_from c.in_ok-second.second.items (drop (2 * length c.in_ok-first.first.items) c.args.halves.now) =
    c.in_ok-fresh.ensures ∙ ap (λ (ps : List Portion). frames_from ps c.halves_behind-rest.result.now) c.deref-2.ensures.value
    ∙ ap (λ (hs : List Values). frames_from c.in_ok-second.second.items hs) (c.halves_behind-rest.ensures ∙ ap (λ (k : ℕ). drop (2 * k) c.args.halves.now) count) in
    let size = ap (λ (fs : List Frame). length fs) (fresh ∙ sides.fresh.frames) ∙ length-take c.splice_len-frames.result (run_at (line_from c.requires.halves.0 c.args.index.now.items) (place_of c.args.index.now c.args.new.now)) in
    omega (arith, size)

pub of-requires-clause-whole : goal.of-requires-clause-whole
of-requires-clause-whole c =
    let sides = are_sides c.args.index.now c.args.self.now c.args.new.now c.splice_len-frames.result c.in_ok-first.first.items c.in_ok-second.second.items c.args.halves.now c.requires.halves.0 c.in_ok-first.ensures.right c.requires.position.position c.requires.new.position c.requires.halves.1.suits (lt-ltb 0 _ c.requires.some) c.splice_len-frames.ensures c.in_ok-first.ensures.portions c.in_ok-second.ensures.portions c.requires.halves.1.halves in
    let count : c.len.result ≡ length c.in_ok-first.first.items = omega (arith, c.len.ensures, c.in_ok-first.first.ok) in
    let fresh : c.in_ok-fresh.fresh ≡ frames_from c.in_ok-second.second.items (drop (2 * length c.in_ok-first.first.items) c.args.halves.now) =
    c.in_ok-fresh.ensures ∙ ap (λ (ps : List Portion). frames_from ps c.halves_behind-rest.result.now) c.deref-2.ensures.value
    ∙ ap (λ (hs : List Values). frames_from c.in_ok-second.second.items hs) (c.halves_behind-rest.ensures ∙ ap (λ (k : ℕ). drop (2 * k) c.args.halves.now) count) in
    let n : ℕ = c.splice_len-frames.result in
    let all : List Frame = mixed_from c.args.constants.now n 0 (filled n c.in_ok-old.old) c.in_ok-fresh.fresh in
    let some : 0 < c.channels-channels.result = omega (arith, c.channels-channels.ensures) in
    let each_fresh : All (HasChannels c.channels-channels.result) c.in_ok-fresh.fresh = rw (fresh, c.channels-channels.ensures) sides.fresh.each in
    let each : All (HasChannels c.channels-channels.result) all = mixed_each c.args.constants.now n 0 c.channels-channels.result (filled n c.in_ok-old.old) c.in_ok-fresh.fresh each_fresh in
    whole_values c.channels-channels.result all c.in_ok-mix.field-0.items some each c.in_ok-mix.ensures

pub returns : goal.returns
returns c = λ source are.
    let sides = are_sides c.args.index.now c.args.self.now c.args.new.now c.splice_len-frames.result c.in_ok-first.first.items c.in_ok-second.second.items c.args.halves.now source c.in_ok-first.ensures.right c.requires.position.position c.requires.new.position are.suits (lt-ltb 0 _ c.requires.some) c.splice_len-frames.ensures c.in_ok-first.ensures.portions c.in_ok-second.ensures.portions are.halves in
    let count : c.len.result ≡ length c.in_ok-first.first.items = omega (arith, c.len.ensures, c.in_ok-first.first.ok) in
    let fresh : c.in_ok-fresh.fresh ≡ frames_from c.in_ok-second.second.items (drop (2 * length c.in_ok-first.first.items) c.args.halves.now) =
    c.in_ok-fresh.ensures ∙ ap (λ (ps : List Portion). frames_from ps c.halves_behind-rest.result.now) c.deref-2.ensures.value
    ∙ ap (λ (hs : List Values). frames_from c.in_ok-second.second.items hs) (c.halves_behind-rest.ensures ∙ ap (λ (k : ℕ). drop (2 * k) c.args.halves.now) count) in
    let n : ℕ = c.splice_len-frames.result in
    let all : List Frame = mixed_from c.args.constants.now n 0 (filled n c.in_ok-old.old) c.in_ok-fresh.fresh in
    let some : 0 < c.channels-channels.result = omega (arith, c.channels-channels.ensures) in
    let each_fresh : All (HasChannels c.channels-channels.result) c.in_ok-fresh.fresh = rw (fresh, c.channels-channels.ensures) sides.fresh.each in
    let each : All (HasChannels c.channels-channels.result) all = mixed_each c.args.constants.now n 0 c.channels-channels.result (filled n c.in_ok-old.old) c.in_ok-fresh.fresh each_fresh in
    let old : c.in_ok-old.old ≡ patched c.args.self.now.patch (frames_from c.in_ok-first.first.items c.args.halves.now) =
    c.in_ok-old.ensures ∙ ap (λ (ps : List Portion). patched c.args.self.now.patch (frames_from ps c.args.halves.now)) c.deref.ensures.value in
    c.of.ensures
    ∙ frames_of_values c.channels-channels.result all c.in_ok-mix.field-0.items some each c.in_ok-mix.ensures
    ∙ spliced c.args.constants.now c.args.index.now c.args.self.now c.args.new.now n c.in_ok-first.first.items c.in_ok-second.second.items c.args.halves.now source c.in_ok-old.old c.in_ok-fresh.fresh c.in_ok-first.ensures.right c.requires.position are.suits c.splice_len-frames.ensures sides old fresh
