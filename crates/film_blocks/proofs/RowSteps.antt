-- The rows of entries, one at a time.
use Rattle.std.proofs.Common.{◌≡◌, ℕ, ◌<◌, ◌≤◌, Bool, List, length, map, get_or, Option, refl, sym, ap, ◌∙◌}
use Rattle.std.proofs.lemmas.List.{get_or-map}
use Rattle.ogg_packets.specs.declared.entry.Entry.{Entry}
use Rattle.ogg_packets.specs.declared.entry.Entry.TheVariants.{Packet, Lost}
use Rattle.ogg_packets.specs.Pieces.{joined}
use Rattle.ogg_packets.specs.Entries.{front_in, item_of, items_of, mark_in}
use Rattle.model_ogg.specs.declared.page.Mark.{Mark}
use Rattle.model_line.specs.declared.row.RowKind.{RowKind}
use Rattle.model_line.specs.declared.row.Row.{Row}
use Rattle.model_line.specs.PacketRows.{row_of}
use Rattle.film_blocks.specs.Fronts.{kind_by_front}
use Rattle.film_blocks.proofs.HeadFronts.{head_by_front}

-- the front at a place is that of the entry there
pub front_at : (bytes : List ℕ) (es : List Entry) (fronts : List (Option (List ℕ))) (i : ℕ) (front : Option (List ℕ)) (e : Entry) → fronts ≡ map (front_in bytes) es → i < length es → front ≡ get_or fronts i front → e ≡ get_or es i e → front ≡ front_in bytes e
front_at bytes es fronts i front e are lt front-is e-is =
    front-is ∙ ap (λ (xs : List (Option (List ℕ))). get_or xs i front) are ∙ get_or-map (front_in bytes) es i e front lt ∙ ap (front_in bytes) (sym e-is)

-- the row of an entry, whose kind its front tells
pub row_with_mark : (bytes : List ℕ) (flags : List Bool) (e : Entry) (kind : RowKind) (mark : Option Mark) → length flags ≤ 64 → kind ≡ kind_by_front flags (front_in bytes e) → mark ≡ mark_in e → record { kind = kind; mark = mark } ≡ row_of flags (item_of bytes e)
row_with_mark bytes flags (Packet pieces own) kind mark few kind-is mark-is =
    rw (kind-is, mark-is, head_by_front flags (joined bytes pieces) few) refl
row_with_mark bytes flags Lost kind mark few kind-is mark-is = rw (kind-is, mark-is) refl

abbrev pub rows_in_order : List ℕ → List Bool → List Entry → List Row
rows_in_order bytes flags es = map (row_of flags) (items_of bytes es)
