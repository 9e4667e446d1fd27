-- What the entries of the program count.
use Rattle.std.proofs.Common.{◌≡◌, ℕ, ◌+◌, Bool, cond, List, [], ◌∷◌, length, count_by, refl, sym, ap, ◌∙◌}
use Rattle.std.proofs.lemmas.List.{length-map}
use Rattle.std.proofs.lemmas.List.Sums.{sum_by-cons}
use Rattle.model_ogg.specs.Entries.{StreamItem}
use Rattle.ogg_packets.specs.declared.entry.Entry.{Entry}
use Rattle.ogg_packets.specs.declared.entry.Entry.TheVariants.{Packet, Lost}
use Rattle.ogg_packets.specs.Entries.{is_packet_entry, item_of, items_of}
use Rattle.model_line.specs.Acceptance.{is_packet}

is_packet-item_of : (bytes : List ℕ) (e : Entry) → is_packet (item_of bytes e) ≡ is_packet_entry e
is_packet-item_of bytes (Packet pieces mark) = refl
is_packet-item_of bytes Lost = refl

pub count-items : (bytes : List ℕ) (es : List Entry) → count_by is_packet (items_of bytes es) ≡ count_by is_packet_entry es
count-items bytes [] = refl
count-items bytes (e ∷ es) =
    sum_by-cons (λ (x : StreamItem). cond (is_packet x) 1 0) (item_of bytes e) (items_of bytes es)
    ∙ ap (λ (b : Bool). cond b 1 0 + count_by is_packet (items_of bytes es)) (is_packet-item_of bytes e)
    ∙ ap (λ (n : ℕ). cond (is_packet_entry e) 1 0 + n) (count-items bytes es)
    ∙ sym (sum_by-cons (λ (x : Entry). cond (is_packet_entry x) 1 0) e es)

pub length-items : (bytes : List ℕ) (es : List Entry) → length (items_of bytes es) ≡ length es
length-items bytes es = length-map es (λ (e : Entry). item_of bytes e)

pub ruleset entry_laws = (count-items, length-items)
