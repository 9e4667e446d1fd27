-- The made films: three links (RFC 3533, section 4), each with its header packets (Vorbis I,
-- section 4.2) and with packets that are drawn, ten on a page.
use Rattle.std.specs.Prelude.{◌≡◌, ℕ, ◌+◌, ◌-◌, ◌*◌, ◌/◌, ◌%◌, ◌==◌, nat_le, List, [], ◌∷◌, ◌++◌, length, map, take, drop, replicate, Option, Some, None, Bool, codes, if◌then◌else◌}
use Rattle.std.specs.Int.{w32, to_le_bytes}
use Rattle.std.specs.List.{flat_map, range_with_len}
use Rattle.std.specs.Option.{option_map_or}
use Rattle.model_bits.specs.Bits.{number_of}
use Rattle.model_bits.specs.Writing.{bits_of_fields, filled}
use Rattle.model_ogg.specs.Writing.{PageFields, written_pages}
use Rattle.model_synthesis.specs.Overlaps.{overlap_len}
use Rattle.model_writing.specs.SetupWriting.{setup_fields}
use Rattle.model_trial.specs.declared.numbers.TheConstants.{MADE_PACKETS, MADE_SHORT, MADE_LONG, PACKETS_ON_PAGE}
use Rattle.model_trial.specs.Draws.{Draw, generator, draw, give, ◌>>=◌, draws, draw_each}
use Rattle.model_trial.specs.MadeSetup.{made_setup}

-- ---- links

-- a link: its channels, its rate and its serial number; the audio page from which on sequence
-- numbers are one greater, if there is one; by how much its last granule position is less
pub record MadeLink : Type 0 where
  pub channels : ℕ
  pub rate : ℕ
  pub serial : ℕ
  pub lost_before : Option ℕ
  pub cut : ℕ

abbrev pub made_links : List MadeLink
made_links =
    record { channels = 2; rate = 44100; serial = 100; lost_before = None; cut = 0 }
    ∷ record { channels = 1; rate = 22050; serial = 101; lost_before = Some 19; cut = 0 }
    ∷ record { channels = 2; rate = 48000; serial = 102; lost_before = None; cut = 7 } ∷ []

-- ---- header packets

-- the identification: version 0, no bitrates, blocks of 64 and 256
unfoldable pub ident_packet : MadeLink → List ℕ
ident_packet link =
    1 ∷ codes "vorbis" ++ (replicate 4 0
    ++ (link.channels ∷ to_le_bytes w32 link.rate ++ (replicate 12 0 ++ 0x86 ∷ 1 ∷ [])))

-- the comment, without vendor and texts
unfoldable pub comment_packet : List ℕ
comment_packet = 3 ∷ codes "vorbis" ++ (replicate 8 0 ++ 1 ∷ [])

-- the setup, in the form in which setups are written
unfoldable pub setup_packet : MadeLink → List ℕ
setup_packet link =
    let bits = filled (bits_of_fields (setup_fields (made_setup link.channels))) in
    map (λ i. number_of (take 8 (drop (8 * i) bits))) (range_with_len 0 (length bits / 8))

-- ---- audio packets

-- a packet's bytes, before its head is put into the first
unfoldable pub drawn_body : Draw (List ℕ)
drawn_body = do
  more ← draw 60
  draws (4 + more) (draw 256)

-- The first byte of a packet of a mode between packets of two modes (section 4.3.1): bit 0 says
-- that it is audio, bit 1 is the mode, and a long block has the modes of its neighbours as window
-- flags. The other bits stay.
unfoldable pub headed : ℕ → ℕ → ℕ → ℕ → ℕ
headed before mode after byte =
    if mode == 0 then byte / 4 * 4 else byte / 16 * 16 + (2 + 4 * before + 8 * after)

-- the mode of the next packet, and that of a long block where there is none
abbrev pub next_mode : List ℕ → ℕ
next_mode [] = 1
next_mode (mode ∷ modes) = mode

abbrev pub with_head : ℕ → ℕ → ℕ → List ℕ → List ℕ
with_head before mode after [] = []
with_head before mode after (byte ∷ bytes) = headed before mode after byte ∷ bytes

-- packets of these modes and bytes, behind one of a mode
unfoldable pub packets_behind : ℕ → List ℕ → List (List ℕ) → List (List ℕ)
packets_behind before [] bodies = []
packets_behind before (mode ∷ modes) [] = []
packets_behind before (mode ∷ modes) (body ∷ bodies) =
    with_head before mode (next_mode modes) body ∷ packets_behind mode modes bodies

-- a link with what is drawn for it: the modes of its packets, and the packets
pub record DrawnLink : Type 0 where
  pub link : MadeLink
  pub modes : List ℕ
  pub packets : List (List ℕ)

unfoldable pub drawn_link : MadeLink → Draw DrawnLink
drawn_link link = do
  modes ← draws MADE_PACKETS (draw 2)
  bodies ← draws MADE_PACKETS drawn_body
  give (record { link = link; modes = modes; packets = packets_behind 1 modes bodies })

-- the links of the film of a number
unfoldable pub drawn_links : ℕ → List DrawnLink
drawn_links number = (draw_each drawn_link made_links (generator number)).0

-- ---- pages

-- the lacing values of a packet (RFC 3533, section 5)
abbrev pub packet_laces : List ℕ → List ℕ
packet_laces packet = replicate (length packet / 255) 255 ++ length packet % 255 ∷ []

-- a page of a link with whole packets
abbrev pub page_of : MadeLink → ℕ → ℕ → ℕ → List (List ℕ) → PageFields
page_of link flags granule sequence packets = record {
  flags = flags;
  granule = Some granule;
  serial = link.serial;
  sequence = sequence;
  laces = flat_map packet_laces packets;
  body = flat_map (λ packet. packet) packets;
}

abbrev pub block_size : ℕ → ℕ
block_size mode = if mode == 0 then MADE_SHORT else MADE_LONG

-- how many frames blocks of these modes give (Vorbis I, section 4.3.8)
unfoldable pub frames_between : List ℕ → ℕ
frames_between [] = 0
frames_between (a ∷ []) = 0
frames_between (a ∷ b ∷ modes) =
    overlap_len (block_size a) (block_size b) + frames_between (b ∷ modes)

-- how many audio pages a link has
abbrev pub audio_pages : ℕ
audio_pages = MADE_PACKETS / PACKETS_ON_PAGE

abbrev pub is_last_page : ℕ → Bool
is_last_page page = page + 1 == audio_pages

-- the granule position of an audio page: the frames up to its end, fewer on the last page
unfoldable pub granule_at : DrawnLink → ℕ → ℕ
granule_at drawn page =
    frames_between (take (PACKETS_ON_PAGE * (page + 1)) drawn.modes)
    - (if is_last_page page then drawn.link.cut else 0)

-- the sequence number of an audio page, behind those of two pages of headers
unfoldable pub sequence_at : MadeLink → ℕ → ℕ
sequence_at link page =
    2 + page + option_map_or (λ lost. if nat_le lost page then 1 else 0) link.lost_before 0

-- the packets of an audio page
abbrev pub packets_at : DrawnLink → ℕ → List (List ℕ)
packets_at drawn page = take PACKETS_ON_PAGE (drop (PACKETS_ON_PAGE * page) drawn.packets)

unfoldable pub audio_page : DrawnLink → ℕ → PageFields
audio_page drawn page =
    page_of drawn.link (if is_last_page page then 4 else 0) (granule_at drawn page)
    (sequence_at drawn.link page) (packets_at drawn page)

-- the pages of a link
unfoldable pub link_pages : DrawnLink → List PageFields
link_pages drawn =
    page_of drawn.link 2 0 0 (ident_packet drawn.link ∷ [])
    ∷ page_of drawn.link 0 0 1 (comment_packet ∷ setup_packet drawn.link ∷ [])
    ∷ map (audio_page drawn) (range_with_len 0 audio_pages)

-- the pages of the film of a number
unfoldable pub made_pages : ℕ → List PageFields
made_pages number = flat_map link_pages (drawn_links number)

-- the bytes of that film
unfoldable pub made_film : ℕ → List ℕ
made_film number = written_pages (made_pages number)
