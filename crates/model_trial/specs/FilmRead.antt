-- What is read of a made film: its links, each with its entries.
use Rattle.std.specs.Prelude.{ℕ, ◌+◌, Bool, false, ◌==◌, if◌then◌else◌, List, [], ◌∷◌, ◌++◌, map, Option, Some, None, is_some}
use Rattle.std.specs.List.{flat_map, range_with_len}
use Rattle.std.specs.Option.{option_map_or}
use Rattle.model_ogg.specs.declared.page.Mark.{Mark}
use Rattle.model_ogg.specs.Entries.{StreamItem, packet, lost}
use Rattle.model_setup.specs.declared.head.IdentFields.{IdentFields}
use Rattle.model_setup.specs.declared.setup.PacketHead.{PacketHead}
use Rattle.model_setup.specs.declared.setup.PacketHead.TheVariants as heads
use Rattle.model_line.specs.declared.film.LinkCounts.{LinkCounts}
use Rattle.model_line.specs.Acceptance.{FilmLink}
use Rattle.model_trial.specs.declared.numbers.TheConstants.{MADE_PACKETS, MADE_SHORT, MADE_LONG}
use Rattle.model_trial.specs.MadeSetup.{made_setup}
use Rattle.model_trial.specs.MadeFilm.{MadeLink, DrawnLink, next_mode, drawn_links, audio_pages, is_last_page, granule_at, packets_at}

-- ---- entries

-- packets, the last of which has a mark
abbrev pub marked_last : Mark → List (List ℕ) → List StreamItem
marked_last mark [] = []
marked_last mark (p ∷ []) = packet p (Some mark) ∷ []
marked_last mark (p ∷ q ∷ ps) = packet p None ∷ marked_last mark (q ∷ ps)

-- the mark of an audio page
abbrev pub mark_at : DrawnLink → ℕ → Mark
mark_at drawn page =
    record { granule = granule_at drawn page; last = is_last_page page }

-- a page is missing before this one
abbrev pub follows_loss : MadeLink → ℕ → Bool
follows_loss link page = option_map_or (λ lost. lost == page) link.lost_before false

-- the entries of an audio page: a loss, where a page is missing before it, and its packets
unfoldable pub page_entries : DrawnLink → ℕ → List StreamItem
page_entries drawn page = (if follows_loss drawn.link page then lost ∷ [] else [])
    ++ marked_last (mark_at drawn page) (packets_at drawn page)

-- the entries of a link behind its headers
unfoldable pub audio_entries : DrawnLink → List StreamItem
audio_entries drawn = flat_map (page_entries drawn) (range_with_len 0 audio_pages)

-- ---- links

abbrev pub ident_read : MadeLink → IdentFields
ident_read link = record {
  channels = link.channels;
  rate = link.rate;
  short = MADE_SHORT;
  long = MADE_LONG;
}

-- its pages and packets, those of the headers among them, and its losses
abbrev pub counts_read : MadeLink → LinkCounts
counts_read link = record {
  serial = link.serial;
  pages = 2 + audio_pages;
  packets = 3 + MADE_PACKETS;
  lost = if is_some link.lost_before then 1 else 0;
}

-- a link as it is read
unfoldable pub link_read : DrawnLink → FilmLink
link_read drawn = record {
  counts = counts_read drawn.link;
  ident = ident_read drawn.link;
  setup = made_setup drawn.link.channels;
  entries = audio_entries drawn;
}

-- the links that are read of the film of a number
unfoldable pub links_read : ℕ → List FilmLink
links_read number = map link_read (drawn_links number)

-- ---- the heads of packets (Vorbis I, section 4.3.1)

-- the head of a block of a mode between blocks of two modes: a long block's window flags are long
-- where its neighbours are
abbrev pub head_between : ℕ → ℕ → ℕ → PacketHead
head_between before mode after =
    if mode == 0 then heads.Block 0 false false else heads.Block 1 (before == 1) (after == 1)

-- those of blocks of these modes, behind one of a mode
unfoldable pub heads_behind : ℕ → List ℕ → List PacketHead
heads_behind before [] = []
heads_behind before (mode ∷ modes) =
    head_between before mode (next_mode modes) ∷ heads_behind mode modes
