use Rattle.std.proofs.Common.{◌≡◌, ◌/◌, length, sym, ap, ◌∙◌, arith}
use Rattle.model_cursor.proofs.Parts.{length-parts_of}
use Rattle.model_cursor.proofs.frames.Frames.count.Goals as goal

pub returns : goal.returns
returns c =
    let frames = c.self.inside in
    let values = frames.values.items in
    let len : c.len.result ≡ length values = omega (arith, frames.values.ok.0) in
    ap (λ n. n / c.from.result) len ∙ ap (λ m. length values / m) c.from.ensures
    ∙ sym (length-parts_of (length values / frames.channels) frames.channels values)
    ∙ ap length c.self.view_is
