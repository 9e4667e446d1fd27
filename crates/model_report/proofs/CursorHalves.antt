-- The halves of a film's blocks are what cursors in its index ask for.
use Rattle.std.proofs.Common.{◌≡◌, ℕ, ◌+◌, List, map, Option, option_map, Some, refl, sym, ap, subst, ◌∙◌, arith}
use Rattle.std.specs.List.{All, slice_get}
use Rattle.std.specs.Option.{option_map_or}
use Rattle.std.proofs.lemmas.List.Elements.{All-weaker}
use Rattle.std.proofs.lemmas.Option.{slice_get-map}
use Rattle.model_synthesis.specs.Tables.{ConstantTables, AreTables}
use Rattle.model_line.specs.declared.item.Item.{Item}
use Rattle.model_line.specs.declared.item.Item.TheVariants as variants
use Rattle.model_line.specs.declared.item.LinkFacts.{LinkFacts}
use Rattle.model_line.specs.declared.row.LinkRows.{LinkRows}
use Rattle.model_line.specs.Acceptance.{FilmLink}
use Rattle.model_line.specs.Blocks.{Values, IsHalfBlock}
use Rattle.model_line.specs.Index.{Indexed, facts_of, facts_from, Indexes}
use Rattle.model_line.specs.PacketRows.{rows_by, rows_of, block_packets}
use Rattle.model_line.proofs.BlockPackets.{links_behind}
use Rattle.model_line.proofs.FactsAt.{slice_get-facts}
use Rattle.model_cursor.specs.Sources.{channels_in, ItemSuits}
use Rattle.model_film.specs.Links.{IsLink}
use Rattle.model_report.specs.FilmHalves.{film_halves, HalvesServeCursors}
use Rattle.model_film.specs.Laws.{IsHalfOf, ItemFits}
use Rattle.model_film.proofs.ItemLines.{line_by_items}
use Rattle.model_film.proofs.SpanHalves.{spans_fit_halves}

-- the channels that the facts of a link tell are its own
channels_of_facts : (number : ℕ) (link : FilmLink) → (facts_of number (rows_of link)).channels ≡ link.ident.channels
unfolding facts_of rows_by
channels_of_facts number link = refl

channels_there : (facts : List LinkFacts) (links : List FilmLink) (number : ℕ) (link : FilmLink) → facts ≡ facts_from 0 (map rows_of links) → slice_get links number ≡ Some link
    → channels_in facts number ≡ link.ident.channels
channels_there facts links number link facts-are there =
    let found : slice_get facts number ≡ Some (facts_of (0 + number) (rows_of link)) =
    ap (λ (all : List LinkFacts). slice_get all number) facts-are
    ∙ (slice_get-facts 0 (map rows_of links) number
    ∙ ap (option_map (facts_of (0 + number))) (slice_get-map rows_of links number ∙ ap (option_map rows_of) there)) in
    ap (λ (one : Option LinkFacts). option_map_or (λ (f : LinkFacts). f.channels) one 0) found ∙ channels_of_facts (0 + number) link

-- a half of a block of a link is one of so many channels
half_suits : (link : FilmLink) (channels : ℕ) (half : Values) → channels ≡ link.ident.channels → IsHalfOf link half → IsHalfBlock channels half
half_suits link channels half same is = record {
  some = rw same is.some;
  count = is.count ∙ sym same;
  size = is.size;
  sizes = is.sizes;
  small = is.small;
}

module _ (tables : ConstantTables) (links : List FilmLink) (index : Indexed) (facts : index.links ≡ facts_from 0 (map rows_of links)) where
  item_suits : (x : Item) → ItemFits tables links x → ItemSuits index.links (film_halves tables links) x
  item_suits (variants.Span s) fits =
      let same : channels_in index.links s.link ≡ fits.link.ident.channels = channels_there index.links links s.link fits.link facts fits.there in
      record {
        right = half_suits fits.link _ _ same fits.right;
        left = half_suits fits.link _ _ same fits.left;
        within = fits.within;
      }
  item_suits (variants.Gap link kind) fits = tt

pub halves_serve_cursors : HalvesServeCursors
halves_serve_cursors = λ tables links index right_tables are is. record {
  suits = All-weaker (ItemFits tables links) (ItemSuits index.links (film_halves tables links)) (item_suits tables links index is.facts) index.items (spans_fit_halves tables links index right_tables are is);
  line = line_by_items tables links index.items are is.origins;
  blocks = is.count ∙ omega (arith, links_behind 0 0 links);
}
