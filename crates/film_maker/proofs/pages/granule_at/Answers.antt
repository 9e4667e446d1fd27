use Rattle.std.proofs.Common.{length, ap, ◌∙◌, arith}
use Rattle.film_maker.proofs.Paging.{frames-lt}
use Rattle.film_maker.proofs.pages.granule_at.Goals as goal

pub returns-then-page-eq-AUDIO_PAGES-clause-small : goal.returns-then-page-eq-AUDIO_PAGES-clause-small
returns-then-page-eq-AUDIO_PAGES-clause-small c =
    omega (arith, frames-lt _ _ _ c.frames_between-frames.ensures (ap length c.deref.ensures.value ∙ c.requires.whole.modes), c.saturating_sub.ensures)

pub returns-else-page-eq-AUDIO_PAGES-clause-small : goal.returns-else-page-eq-AUDIO_PAGES-clause-small
returns-else-page-eq-AUDIO_PAGES-clause-small c =
    frames-lt _ _ _ c.frames_between-frames.ensures (ap length c.deref.ensures.value ∙ c.requires.whole.modes)
