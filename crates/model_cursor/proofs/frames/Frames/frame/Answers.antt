use Rattle.std.proofs.Common.{◌≡◌, ℕ, ◌+◌, ◌-◌, ◌*◌, ◌/◌, ◌<◌, ◌≤◌, List, [], length, take, drop, get_or, ap, sym, ◌∙◌, arith, ℤ}
use Rattle.model_cursor.specs.FrameLists.{values_of}
use Rattle.model_cursor.proofs.PartsAt.{part_at, part_past}
use Rattle.model_cursor.proofs.frames.Frames.frame.Goals as goal

pub returns-then-number-len : goal.returns-then-number-len
returns-then-number-len c =
    let frames = c.self.inside in
    let n : ℕ = c.args.number in
    let values : List ℤ = frames.values.items in
    let size : c.from-channels.result ≡ frames.channels = c.from-channels.ensures in
    let all : c.len.result ≡ length values = omega (arith, frames.values.ok.0) in
    let few : c.len.result / c.from-channels.result ≡ length values / frames.channels = ap (λ k. k / c.from-channels.result) all ∙ ap (λ k. length values / k) size in
    let less : n < length values / frames.channels = omega (arith, few, c.if-number-len.true) in
    let one : (n + 1) * frames.channels - n * frames.channels ≡ frames.channels = omega arith in
    let kept : c.items-values.result.now ≡ values = c.items-values.ensures ∙ ap (λ (fs : List (List ℤ)). values_of fs) (sym c.self.view_is) ∙ c.self.invariant.1 in
    ap (λ (k : ℕ). take ((n + 1) * k - n * k) (drop (n * k) c.items-values.result.now)) size
    ∙ ap (λ (k : ℕ). take k (drop (n * frames.channels) c.items-values.result.now)) one
    ∙ ap (λ (vs : List ℤ). take frames.channels (drop (n * frames.channels) vs)) kept
    ∙ sym (part_at (length values / frames.channels) frames.channels values n less)
    ∙ ap (λ (fs : List (List ℤ)). get_or fs n []) c.self.view_is

pub returns-else-number-len : goal.returns-else-number-len
returns-else-number-len c =
    let frames = c.self.inside in
    let n : ℕ = c.args.number in
    let values : List ℤ = frames.values.items in
    let size : c.from-channels.result ≡ frames.channels = c.from-channels.ensures in
    let all : c.len.result ≡ length values = omega (arith, frames.values.ok.0) in
    let few : c.len.result / c.from-channels.result ≡ length values / frames.channels = ap (λ k. k / c.from-channels.result) all ∙ ap (λ k. length values / k) size in
    let past : length values / frames.channels ≤ n = omega (arith, few, c.if-number-len.false) in
    sym (part_past (length values / frames.channels) frames.channels values n past)
    ∙ ap (λ (fs : List (List ℤ)). get_or fs n []) c.self.view_is
