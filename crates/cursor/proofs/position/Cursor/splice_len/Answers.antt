use Rattle.std.proofs.Common.{ℕ, ◌∙◌, ap, min, ◌/◌}
use Rattle.model_line.specs.Origins.{listed}
use Rattle.model_cursor.specs.Plans.{shorts_of}
use Rattle.model_cursor.specs.Splices.{short_at, splice_len}
use Rattle.cursor.proofs.CursorRuns.{place_of}
use Rattle.cursor.proofs.position.Cursor.splice_len.Goals as goal

pub returns : goal.returns
unfolding splice_len
returns c = ap (λ (k : ℕ). k / 2) (
    c.min.ensures
    ∙ ap (λ (k : ℕ). min c.short.result k) c.short-2.ensures
    ∙ ap (λ (k : ℕ). min k (short_at (shorts_of c.args.index.now.links) (listed c.args.index.now.items) (place_of c.args.index.now c.args.new.now))) c.short.ensures
    )
