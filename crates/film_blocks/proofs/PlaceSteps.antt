-- The places of the rows that are blocks, one row at a time.
use Rattle.std.proofs.Common.{◌≡◌, ℕ, ◌+◌, List, [], ◌∷◌, ◌++◌, sym, ◌∙◌, append_assoc}
use Rattle.std.proofs.lemmas.List.{append-nil}
use Rattle.model_line.specs.declared.row.Row.{Row}
use Rattle.film_blocks.specs.Places.{block_place, block_places}

pub places_go_on : (place : ℕ) (rows : List Row) (row : Row) (behind : List Row) (places now total : List ℕ) → rows ≡ row ∷ behind → now ≡ places ++ block_place place row
    → places ++ block_places place rows ≡ total → now ++ block_places (place + 1) behind ≡ total
unfolding block_places
places_go_on place rows row behind places now total split now-is h =
    let more = rw split at h in
    rw now-is (append_assoc places (block_place place row) (block_places (place + 1) behind) ∙ more)

pub places_end : (place : ℕ) (rows : List Row) (places total : List ℕ) → rows ≡ [] → places ++ block_places place rows ≡ total → places ≡ total
unfolding block_places
places_end place rows places total none h = let all = rw none at h in sym (append-nil places) ∙ all
