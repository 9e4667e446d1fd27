-- The headers of a stream, by its first three entries.
use Rattle.std.proofs.Common.{◌≡◌, ℕ, ◌<◌, List, [], ◌∷◌, length, drop, get_or, Option, Some, None, refl, arith}
use Rattle.model_ogg.specs.Entries.{StreamItem}
use Rattle.ogg_packets.specs.declared.entry.Entry.{Entry}
use Rattle.ogg_packets.specs.declared.entry.Entry.TheVariants.{Packet, Lost}
use Rattle.ogg_packets.specs.Entries.{item_of, items_of, packet_in}
use Rattle.model_line.specs.LinkTests.{first_packet, three_packets, headers_of}

packet_item : (bytes : List ℕ) (e : Entry) (items : List StreamItem) → packet_in bytes e ≡ first_packet (item_of bytes e ∷ items)
packet_item bytes (Packet pieces mark) items = refl
packet_item bytes Lost items = refl

pub packet_first : (bytes : List ℕ) (es : List Entry) (e : Entry) → 0 < length es → e ≡ get_or es 0 e → packet_in bytes e ≡ first_packet (items_of bytes es)
packet_first bytes [] e lt is = absurd (omega (arith, lt))
packet_first bytes (first ∷ es) e lt is = rw is (packet_item bytes first (items_of bytes es))

without_comment : (ident setup : Option (List ℕ)) → three_packets ident None setup ≡ None
without_comment None setup = refl
without_comment (Some ident) setup = refl

without_setup : (ident comment : Option (List ℕ)) → three_packets ident comment None ≡ None
without_setup None comment = refl
without_setup (Some ident) None = refl
without_setup (Some ident) (Some comment) = refl

pub no_ident : (items : List StreamItem) → first_packet items ≡ None → headers_of items ≡ None
unfolding headers_of
no_ident items e = rw e refl

pub no_comment : (items : List StreamItem) → first_packet (drop 1 items) ≡ None → headers_of items ≡ None
unfolding headers_of
no_comment items e = rw e (without_comment (first_packet items) (first_packet (drop 2 items)))

pub no_setup : (items : List StreamItem) → first_packet (drop 2 items) ≡ None → headers_of items ≡ None
unfolding headers_of
no_setup items e = rw e (without_setup (first_packet items) (first_packet (drop 1 items)))

pub all_there : (items : List StreamItem) (ident comment setup : List ℕ) → first_packet items ≡ Some ident → first_packet (drop 1 items) ≡ Some comment → first_packet (drop 2 items) ≡ Some setup
    → headers_of items ≡ Some (record { ident = ident; comment = comment; setup = setup })
unfolding headers_of
all_there items ident comment setup first second third = rw (first, second, third) refl
