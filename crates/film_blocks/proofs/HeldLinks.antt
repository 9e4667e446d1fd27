-- The links that are held, by number.
use Rattle.std.proofs.Common.{◌≡◌, ℕ, ◌<◌, List, length, get_or, Some, option_map, refl, ap, ◌∙◌}
use Rattle.std.specs.List.{slice_get}
use Rattle.std.proofs.lemmas.Option.{slice_get-map, slice_get_read}
use Rattle.model_line.specs.Acceptance.{FilmLink, link_with}
use Rattle.film_blocks.specs.declared.held.HeldLink.{HeldLink}
use Rattle.film_blocks.specs.Held.{link_in, links_in}

pub link_at : (bytes : List ℕ) (held : List HeldLink) (i : ℕ) (h : HeldLink) → i < length held → h ≡ get_or held i h → slice_get (links_in bytes held) i ≡ Some (link_in bytes h)
link_at bytes held i h lt is = slice_get-map (link_in bytes) held i ∙ ap (option_map (link_in bytes)) (slice_get_read held (length held) i h refl lt is)

pub counts_at : (bytes : List ℕ) (held : List HeldLink) (i : ℕ) (h : HeldLink) → i < length held → h ≡ get_or held i h → option_map (λ (l : FilmLink). l.counts) (slice_get (links_in bytes held) i) ≡ Some h.counts
unfolding link_with
counts_at bytes held i h lt is = ap (option_map (λ (l : FilmLink). l.counts)) (link_at bytes held i h lt is)
