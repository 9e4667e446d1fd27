-- The line of a film: its links, each decoded from its first block on and trimmed.
use Rattle.std.specs.Prelude.{ℕ, ◌+◌, List, [], ◌∷◌, ◌++◌, None}
use Rattle.model_line.specs.declared.trim.Cuts.{Cuts}
use Rattle.model_line.specs.Decode.{LinkEntry, LineItem, linear_decode}
use Rattle.model_line.specs.Trim.{marks, cuts_of, trimmed}

-- what the granule positions of a link cut off
unfoldable pub link_cuts : {B F : Type 0} → (B → B → List F) → List (LinkEntry B) → Cuts
link_cuts between entries = cuts_of (marks between 0 None entries)

-- the line of a link: its linear decode, with no block before it, trimmed
unfoldable pub link_line : {B F : Type 0} → ℕ → (B → B → List F) → List (LinkEntry B)
    → List (LineItem F)
link_line link between entries =
    trimmed (link_cuts between entries) 0 (linear_decode link between None entries)

-- the line of a film: its links' lines one after the other, the first link having this number
unfoldable pub line : {B F : Type 0} → (B → B → List F) → ℕ → List (List (LinkEntry B))
    → List (LineItem F)
line between link [] = []
line between link (entries ∷ links) =
    link_line link between entries ++ line between (link + 1) links
