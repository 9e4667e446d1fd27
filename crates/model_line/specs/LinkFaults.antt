-- The film's fault where its links, or the setup of one, are refused.
use Rattle.std.specs.Prelude.{ℕ}
use Rattle.model_ogg.specs.declared.link.LinkFault.{LinkFault}
use Rattle.model_ogg.specs.declared.link.LinkFault.TheVariants as links
use Rattle.model_setup.specs.declared.setup.SetupFault.{SetupFault}
use Rattle.model_setup.specs.declared.setup.SetupFault.TheVariants as setups
use Rattle.model_line.specs.declared.film.FilmFault.{FilmFault}
use Rattle.model_line.specs.declared.film.FilmFault.TheVariants as faults

abbrev pub of_links : LinkFault → FilmFault
of_links links.NoLink = faults.NoLink
of_links (links.NoVorbis link) = faults.NoVorbis link
of_links links.TooManyLinks = faults.TooManyLinks
of_links links.Memory = faults.Memory

-- of the link of this number
abbrev pub of_setup : ℕ → SetupFault → FilmFault
of_setup number (setups.Bad cause item) = faults.Setup number cause item
of_setup number setups.Memory = faults.Memory
