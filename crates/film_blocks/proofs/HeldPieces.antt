-- The pieces of entries, one after the other.
use Rattle.std.proofs.Common.{ℕ, List, [], ◌∷◌, ◌++◌}
use Rattle.std.specs.List.{All}
use Rattle.std.proofs.lemmas.List.Elements.{All-nil, All-cons, All-head, All-tail, All-append}
use Rattle.ogg_packets.specs.declared.entry.Entry.{Entry}
use Rattle.ogg_packets.specs.declared.entry.Entry.TheVariants.{Packet, Lost}
use Rattle.ogg_packets.specs.Pieces.{LiesBefore}
use Rattle.ogg_packets.specs.Entries.{EntryLiesBefore}
use Rattle.film_blocks.specs.Held.{all_pieces}

All-front : {X : Type 0} (P : X → Type 0) (xs ys : List X) → All P (xs ++ ys) → All P xs
All-front P [] ys h = All-nil P
All-front P (x ∷ xs) ys h = All-cons P x xs (All-head P x (xs ++ ys) h) (All-front P xs ys (All-tail P x (xs ++ ys) h))

All-back : {X : Type 0} (P : X → Type 0) (xs ys : List X) → All P (xs ++ ys) → All P ys
All-back P [] ys h = h
All-back P (x ∷ xs) ys h = All-back P xs ys (All-tail P x (xs ++ ys) h)

pub pieces_lie : (end : ℕ) (es : List Entry) → All (EntryLiesBefore end) es → All (LiesBefore end) (all_pieces es)
pieces_lie end [] h = All-nil (LiesBefore end)
pieces_lie end (Packet pieces mark ∷ es) h =
    All-append (LiesBefore end) pieces (all_pieces es) (All-head (EntryLiesBefore end) (Packet pieces mark) es h) (pieces_lie end es (All-tail (EntryLiesBefore end) (Packet pieces mark) es h))
pieces_lie end (Lost ∷ es) h = pieces_lie end es (All-tail (EntryLiesBefore end) Lost es h)

pub entries_lie : (end : ℕ) (es : List Entry) → All (LiesBefore end) (all_pieces es) → All (EntryLiesBefore end) es
entries_lie end [] h = All-nil (EntryLiesBefore end)
entries_lie end (Packet pieces mark ∷ es) h =
    All-cons (EntryLiesBefore end) (Packet pieces mark) es (All-front (LiesBefore end) pieces (all_pieces es) h) (entries_lie end es (All-back (LiesBefore end) pieces (all_pieces es) h))
entries_lie end (Lost ∷ es) h = All-cons (EntryLiesBefore end) Lost es tt (entries_lie end es h)
