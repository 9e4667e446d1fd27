-- Films that an index is made of.
use Rattle.std.proofs.Common.{◌+◌, ◌≤◌, [], ◌∷◌, length, arith}
use Rattle.std.proofs.lemmas.List.Elements.{All-cons, All-nil}
use Rattle.model_line.specs.declared.row.TheConstants.{MOST_ENTRIES}
use Rattle.model_line.specs.declared.row.LinkRows.{LinkRows}
use Rattle.film_index.specs.Bounds.{FitsLink, FitsIndex}

-- a film of one link
pub one_link : (link : LinkRows) → FitsLink link → length link.rows ≤ MOST_ENTRIES → FitsIndex (link ∷ [])
one_link link fits few = record { count = omega arith; rows = omega arith; sizes = All-cons FitsLink link [] fits (All-nil FitsLink) }

-- a film of two links
pub two_links : (a b : LinkRows) → FitsLink a → FitsLink b → length a.rows + length b.rows ≤ MOST_ENTRIES → FitsIndex (a ∷ (b ∷ []))
two_links a b a-fits b-fits few = record { count = omega arith; rows = omega arith; sizes = All-cons FitsLink a (b ∷ []) a-fits (All-cons FitsLink b [] b-fits (All-nil FitsLink)) }
