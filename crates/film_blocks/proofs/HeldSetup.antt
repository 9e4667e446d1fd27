-- The setup of a link that is held is read again.
use Rattle.std.proofs.Common.{◌≡◌, ℕ, true, false, is_ok, List, drop, Option, Some, None, Result, Ok, Err, refl, sym, subst, ◌∙◌}
use Rattle.std.specs.Option.{option_map_or}
use Rattle.model_ogg.specs.Entries.{StreamItem}
use Rattle.model_setup.specs.declared.setup.SetupFault.{SetupFault}
use Rattle.model_setup.specs.SetupPacket.{SetupFields, setup_of}
use Rattle.model_line.specs.declared.film.LinkCounts.{LinkCounts}
use Rattle.model_line.specs.LinkTests.{Headers, first_packet, three_packets, headers_of}
use Rattle.model_line.specs.Acceptance.{no_fields, no_setup, ident_by, setup_by, link_with}
use Rattle.film_blocks.specs.Held.{has_setup}

three_setup : (a b c : Option (List ℕ)) (h : Headers) → three_packets a b c ≡ Some h → c ≡ Some h.setup
three_setup (Some a) (Some b) (Some c) h e = let same : record { ident = a; comment = b; setup = c } ≡ h = cc in rw (← same) refl
three_setup (Some a) (Some b) None h e = absurd (cc)
three_setup (Some a) None c h e = absurd (cc)
three_setup None b c h e = absurd (cc)

third : (items : List StreamItem) (h : Headers) → headers_of items ≡ Some h → first_packet (drop 2 items) ≡ Some h.setup
unfolding headers_of
third items h e = three_setup (first_packet items) (first_packet (drop 1 items)) (first_packet (drop 2 items)) h e

-- headers whose setup is right
record HasHeaders (channels : ℕ) (headers : Option Headers) : Type 0 where
  found : Headers
  are : headers ≡ Some found
  right : is_ok (setup_of channels found.setup) ≡ true

has_headers : (channels : ℕ) (headers : Option Headers) → option_map_or (λ (h : Headers). is_ok (setup_of channels h.setup)) headers false ≡ true → HasHeaders channels headers
has_headers channels None e = absurd (cc)
has_headers channels (Some h) e = record { found = h; are = refl; right = e }

pub third_is_there : (channels : ℕ) (items : List StreamItem) → has_setup channels items ≡ true → first_packet (drop 2 items) ≡ None → ⊥
third_is_there channels items h none =
    let has = has_headers channels (headers_of items) h in
    let there = third items has.found has.are in cc

same_packet : (packet other : List ℕ) → Some packet ≡ Some other → packet ≡ other
same_packet packet other e = cc

-- the third packet is read as a setup
third_reads : (channels : ℕ) (items : List StreamItem) (packet : List ℕ) → first_packet (drop 2 items) ≡ Some packet → (has : HasHeaders channels (headers_of items)) → has.found.setup ≡ packet
third_reads channels items packet is has = same_packet has.found.setup packet (sym (third items has.found has.are) ∙ is)

is_ok-err : (r : Result SetupFields SetupFault) (fault : SetupFault) → is_ok r ≡ true → r ≡ Err fault → ⊥
is_ok-err r fault ok err = let no = rw err at ok in cc

pub never_refused : (channels : ℕ) (items : List StreamItem) (packet : List ℕ) (fault : SetupFault) → has_setup channels items ≡ true → first_packet (drop 2 items) ≡ Some packet → setup_of channels packet ≡ Err fault → ⊥
never_refused channels items packet fault h is refused =
    let has = has_headers channels (headers_of items) h in
    let same = third_reads channels items packet is has in
    is_ok-err (setup_of channels packet) fault (rw same at has.right) refused

setup_by_headers : (headers : Option Headers) (h : Headers) (channels : ℕ) (setup : SetupFields) → headers ≡ Some h → channels ≡ (option_map_or ident_by headers no_fields).channels → setup_of channels h.setup ≡ Ok setup
    → option_map_or setup_by headers no_setup ≡ setup
setup_by_headers headers h channels setup is same read =
    let by_ident : channels ≡ (ident_by h).channels = rw is at same in
    let again : setup_of (ident_by h).channels h.setup ≡ Ok setup = subst (λ (n : ℕ). setup_of n h.setup ≡ Ok setup) by_ident read in
    rw (is, again) refl

pub setup_again : (counts : LinkCounts) (items : List StreamItem) (channels : ℕ) (packet : List ℕ) (setup : SetupFields) → channels ≡ (link_with counts items).ident.channels → has_setup channels items ≡ true
    → first_packet (drop 2 items) ≡ Some packet → setup_of channels packet ≡ Ok setup → (link_with counts items).setup ≡ setup
unfolding link_with
setup_again counts items channels packet setup same h is read =
    let has = has_headers channels (headers_of items) h in
    let there = third_reads channels items packet is has in
    setup_by_headers (headers_of items) has.found channels setup has.are same (rw there read)
