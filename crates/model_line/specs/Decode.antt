-- The linear decode of a link: its entries are walked with the block before, and neighbouring
-- blocks overlap (Vorbis I, section 4.3.8). It is stated over any kind of block (B) and of frame
-- (F), with the frames that two neighbouring blocks give: with decoded blocks and their overlap it
-- gives samples, with the sizes of blocks it gives counts.
use Rattle.std.specs.Prelude.{ℕ, ◌+◌, List, [], ◌∷◌, ◌++◌, map, Option, Some, None}
use Rattle.model_ogg.specs.declared.page.Mark.{Mark}
use Rattle.model_line.specs.declared.row.GapKind.{GapKind}

-- What an entry is: something missing (a loss, or a packet that is no block), a packet that is
-- skipped, or a block.
pub data Kind (B : Type 0) : Type 0 where
  missing : GapKind → Kind B
  skipped : Kind B
  decoded : B → Kind B

-- an entry of a link, and the mark of its page, if it has one
pub record LinkEntry (B : Type 0) : Type 0 where
  pub kind : Kind B
  pub mark : Option Mark

-- an item of a line: a frame or a gap of a link
pub data LineItem (F : Type 0) : Type 0 where
  frame : ℕ → F → LineItem F
  gap : ℕ → GapKind → LineItem F

-- The frames between a block and the one before it. The first block has none before it, and gives
-- no frame (Vorbis I, section 4.3.8).
abbrev pub frames_behind : {B F : Type 0} → (B → B → List F) → Option B → B → List F
frames_behind between None b = []
frames_behind between (Some a) b = between a b

-- the frames that an entry gives
abbrev pub frames_given : {B F : Type 0} → (B → B → List F) → Kind B → Option B → List F
frames_given between (missing kind) previous = []
frames_given between skipped previous = []
frames_given between (decoded b) previous = frames_behind between previous b

-- the items that an entry gives: a gap where something is missing, else its frames
abbrev pub items_given : {B F : Type 0} → ℕ → (B → B → List F) → Kind B → Option B
    → List (LineItem F)
items_given link between (missing kind) previous = gap link kind ∷ []
items_given link between skipped previous = []
items_given link between (decoded b) previous = map (frame link) (frames_behind between previous b)

-- the previous block after an entry: none after a gap, the same after a skipped packet
abbrev pub previous_after : {B : Type 0} → Kind B → Option B → Option B
previous_after (missing kind) previous = None
previous_after skipped previous = previous
previous_after (decoded b) previous = Some b

-- the items of a link's entries, decoded with this block before them
unfoldable pub linear_decode : {B F : Type 0} → ℕ → (B → B → List F) → Option B
    → List (LinkEntry B) → List (LineItem F)
linear_decode link between previous [] = []
linear_decode link between previous (e ∷ es) =
    items_given link between e.kind previous
    ++ linear_decode link between (previous_after e.kind previous) es

-- ---- how many frames and gaps items have

unfoldable pub frame_count : {F : Type 0} → List (LineItem F) → ℕ
frame_count [] = 0
frame_count (frame link value ∷ xs) = 1 + frame_count xs
frame_count (gap link kind ∷ xs) = frame_count xs

unfoldable pub gap_count : {F : Type 0} → List (LineItem F) → ℕ
gap_count [] = 0
gap_count (frame link value ∷ xs) = gap_count xs
gap_count (gap link kind ∷ xs) = 1 + gap_count xs
