-- Decoded blocks, and the overlap of neighbouring ones (Vorbis I, section 4.3.8).
use Rattle.std.specs.Prelude.{◌≡◌, ℕ, ◌+◌, ◌*◌, ◌/◌, ◌+ℤ◌, ℤ, List, [], ◌∷◌, length, map, take, drop, slice_index_or, ◌<◌}
use Rattle.std.specs.List.{All, flat_map, range_with_len}
use Rattle.model_setup.specs.HeaderPackets.{IsBlockSize}
use Rattle.model_line.specs.declared.item.Half.{Half}
use Rattle.model_line.specs.declared.item.Half.TheVariants.{Left, Right}
use Rattle.model_line.specs.Decode.{Kind, missing, skipped, decoded, LinkEntry}
use Rattle.model_synthesis.specs.Coupling.{channel}
use Rattle.model_synthesis.specs.Transform.{IsBlockValue}
use Rattle.model_synthesis.specs.Overlaps.{value_at, value_behind_zeros, overlap_len, overlap_at}

-- a block, or half of one: the values of each channel
abbrev pub Values : Type 0
Values = List (List ℤ)

-- a frame: one value per channel, in units of 2^-20
abbrev pub Frame : Type 0
Frame = List ℤ

-- how many values a channel has
abbrev pub len_of : Values → ℕ
len_of values = length (channel values 0)

-- ---- whole blocks

-- Frame j between two blocks. The first counts from its middle on; the second is moved so that the
-- centres of the two slopes meet, which are three quarters of the first and one quarter of the
-- second from where each begins.
abbrev pub frame_between : Values → Values → ℕ → List ℤ
frame_between first second j =
    let a = len_of first in
    let b = len_of second in
    map (λ c. value_at (channel first c) (a / 2 + j)
    +ℤ value_behind_zeros (channel second c) (j + b / 4) (a / 4))
    (range_with_len 0 (length second))

-- the frames between two blocks: from the middle of the first to the middle of the second
unfoldable pub frames_between : Values → Values → List (List ℤ)
frames_between first second =
    map (frame_between first second) (range_with_len 0 (overlap_len (len_of first) (len_of second)))

-- ---- halves

unfoldable pub left_half : Values → Values
left_half block = map (take (len_of block / 2)) block

unfoldable pub right_half : Values → Values
right_half block = map (drop (len_of block / 2)) block

-- a half of a block
abbrev pub half_in : Half → Values → Values
half_in Left block = left_half block
half_in Right block = right_half block

-- frame j between a right half and a left half
abbrev pub overlap_frame : Values → Values → ℕ → List ℤ
overlap_frame right left j =
    let a = 2 * len_of right in
    let b = 2 * len_of left in
    map (λ c. overlap_at a b (channel right c) (channel left c) j) (range_with_len 0 (length left))

-- the frames between a right half and a left half
unfoldable pub overlap : Values → Values → List (List ℤ)
overlap right left = map (overlap_frame right left)
    (range_with_len 0 (overlap_len (2 * len_of right) (2 * len_of left)))

-- A half of a block of so many channels: each has as many values as the first, half as many as a
-- block has, and they are within their limit.
pub record IsHalfBlock (channels : ℕ) (half : Values) : Type 0 where
  pub some : 0 < channels
  pub count : length half ≡ channels
  pub size : IsBlockSize (2 * len_of half)
  pub sizes : All (λ values. length values ≡ len_of half) half
  pub small : All (All IsBlockValue) half

-- a block has two halves of one size
abbrev pub IsEven : Values → Type 0
IsEven block = len_of block ≡ 2 * (len_of block / 2)

-- ---- the blocks of a film, by their numbers

abbrev pub blocks_of : {B : Type 0} → Kind B → List B
blocks_of (missing kind) = []
blocks_of skipped = []
blocks_of (decoded b) = b ∷ []

unfoldable pub link_blocks : {B : Type 0} → List (LinkEntry B) → List B
link_blocks {B} es = flat_map (λ (e : LinkEntry B). blocks_of e.kind) es

unfoldable pub all_blocks : {B : Type 0} → List (List (LinkEntry B)) → List B
all_blocks links = flat_map link_blocks links

-- the block of this number
abbrev pub block_at : List (List (LinkEntry Values)) → ℕ → Values
block_at links k = slice_index_or (all_blocks links) k []
