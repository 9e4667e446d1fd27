-- The pages of a made film, as the program writes them.
use Rattle.std.specs.Prelude.{ℕ, List, ◌∷◌, [], map, Some, if◌then◌else◌}
use Rattle.std.specs.List.{flat_map, range_with_len}
use Rattle.model_ogg.specs.Writing.{PageFields}
use Rattle.model_trial.specs.MadeFilm.{MadeLink, DrawnLink, packet_laces, page_of, ident_packet, comment_packet, setup_packet, audio_pages, is_last_page, granule_at, sequence_at, audio_page}
use Rattle.film_maker.specs.declared.pages.PageFront.{PageFront}

-- a page with whole packets
abbrev pub packet_page : PageFront → List (List ℕ) → PageFields
packet_page front packets = record {
  flags = front.flags;
  granule = Some front.granule;
  serial = front.serial;
  sequence = front.sequence;
  laces = flat_map packet_laces packets;
  body = flat_map (λ packet. packet) packets;
}

-- what stands in front of the packets of an audio page
abbrev pub audio_front : DrawnLink → ℕ → PageFront
audio_front drawn page = record {
  flags = if is_last_page page then 4 else 0;
  granule = granule_at drawn page;
  serial = drawn.link.serial;
  sequence = sequence_at drawn.link page;
}

-- the two pages of headers
abbrev pub header_pages : MadeLink → List PageFields
header_pages link =
    page_of link 2 0 0 (ident_packet link ∷ [])
    ∷ page_of link 0 0 1 (comment_packet ∷ setup_packet link ∷ []) ∷ []

-- all audio pages
abbrev pub pages_of_audio : DrawnLink → List PageFields
pages_of_audio drawn = map (audio_page drawn) (range_with_len 0 audio_pages)
