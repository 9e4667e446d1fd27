use Rattle.std.proofs.Common.{◌≡◌, ap, ◌∙◌}
use Rattle.std.proofs.lemmas.Result.{IfOk-weaker}
use Rattle.model_line.specs.Blocks.{Values}
use Rattle.model_report.specs.FilmHalves.{film_halves}
use Rattle.film_blocks.specs.KeyedBlocks.{half_of}
use Rattle.script_playing.proofs.FilmCursors.{half_same}
use Rattle.script_playing.proofs.plain.PlainBlocksBlocks.fetch.Goals as goal

pub returns-clause-half : goal.returns-clause-half
returns-clause-half g c =
    IfOk-weaker c.half.result
    (λ (copy : Values). copy ≡ half_of c.args.need.half c.in_ok-block.block)
    (λ (copy : Values). copy ≡ film_halves c.args.self.now.tables c.args.self.now.links c.args.need)
    (λ copy is. rw (← c.self.view_is) (is ∙ (ap (half_of c.args.need.half) c.in_ok-block.ensures.value ∙ half_same c.self.inside.reel.now.constants c.self.inside.reel.now.film.links c.args.need.half c.args.need.block)))
    c.half.ensures
