-- Entries whose blocks are known by something of them, and the blocks of a film by their numbers.
use Rattle.std.specs.Prelude.{◌≡◌, ℕ, List, [], ◌∷◌, map}
use Rattle.model_line.specs.Decode.{Kind, missing, skipped, decoded, LinkEntry}
use Rattle.model_line.specs.Origins.{number_after, number_behind}

-- ---- entries whose blocks are known by something of them, such as their sizes

abbrev pub kind_by : {B C : Type 0} → (B → C) → Kind B → Kind C
kind_by f (missing kind) = missing kind
kind_by f skipped = skipped
kind_by f (decoded b) = decoded (f b)

abbrev pub entry_by : {B C : Type 0} → (B → C) → LinkEntry B → LinkEntry C
entry_by f e = record { kind = kind_by f e.kind; mark = e.mark }

-- the entries of each link, each block known by its size
abbrev pub sizes_of : {B : Type 0} → (B → ℕ) → List (List (LinkEntry B))
    → List (List (LinkEntry ℕ))
sizes_of size links = map (map (entry_by size)) links

-- ---- what holds of each block

abbrev pub OfBlock : {B : Type 0} → (B → Type 0) → Kind B → Type 0
OfBlock P (missing kind) = Unit {0}
OfBlock P skipped = Unit {0}
OfBlock P (decoded b) = P b

-- of each block of a link
unfoldable pub OfBlocks : {B : Type 0} → (B → Type 0) → List (LinkEntry B) → Type 0
OfBlocks P [] = Unit {0}
OfBlocks P (e ∷ es) = OfBlock P e.kind × OfBlocks P es

-- of each block of a film
unfoldable pub OfFilmBlocks : {B : Type 0} → (B → Type 0) → List (List (LinkEntry B)) → Type 0
OfFilmBlocks P [] = Unit {0}
OfFilmBlocks P (es ∷ links) = OfBlocks P es × OfFilmBlocks P links

-- ---- the blocks of a film by their numbers

abbrev pub IsBlock : {B : Type 0} → (ℕ → B) → ℕ → Kind B → Type 0
IsBlock blocks n (missing kind) = Unit {0}
IsBlock blocks n skipped = Unit {0}
IsBlock blocks n (decoded b) = blocks n ≡ b

-- a link's blocks have these numbers, from one on
unfoldable pub AreBlocks : {B : Type 0} → (ℕ → B) → ℕ → List (LinkEntry B) → Type 0
AreBlocks blocks n [] = Unit {0}
AreBlocks blocks n (e ∷ es) =
    IsBlock blocks n e.kind × AreBlocks blocks (number_after n e.kind) es

-- and the blocks of all links
unfoldable pub AreFilmBlocks : {B : Type 0} → (ℕ → B) → ℕ → List (List (LinkEntry B)) → Type 0
AreFilmBlocks blocks n [] = Unit {0}
AreFilmBlocks blocks n (es ∷ links) =
    AreBlocks blocks n es × AreFilmBlocks blocks (number_behind n es) links
