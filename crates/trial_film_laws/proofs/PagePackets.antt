-- Whole packets on a page: the segments that their lacing values cut from its body make these packets again.
use Rattle.std.proofs.Common.{◌≡◌, ℕ, zero, suc, ◌+◌, ◌*◌, ◌/◌, ◌%◌, ◌<◌, ◌≤◌, true, List, [], ◌∷◌, ◌++◌, length, take, drop, sum, replicate, Option, Some, None, if◌then◌else◌, nat_lt, refl, sym, ap, ap₂, ◌∙◌, arith, append_assoc, take-append-drop, lt-ltb}
use Rattle.std.specs.List.{flat_map, list_any}
use Rattle.std.proofs.lemmas.List.{take-take, drop-take, take_at, drop_at, take-append-le, drop-append-le, length-drop}
use Rattle.std.proofs.lemmas.List.Sums.{sum_by-cons}
use Rattle.model_ogg.specs.declared.page.PageRef.{PageRef}
use Rattle.model_ogg.specs.declared.page.Mark.{Mark}
use Rattle.model_ogg.specs.Pages.{IsPageOf, laces_of, from_body, body_of}
use Rattle.model_ogg.specs.Entries.{StreamItem, packet, Segment, ends, segments, segments_of, with_segment, packets_ended, left_pending}
use Rattle.model_ogg.proofs.StandingPages.{body-is}
use Rattle.model_trial.specs.MadeFilm.{packet_laces}
use Rattle.model_trial.specs.FilmRead.{marked_last}

-- ---- the segments of a page by its lacing values and its body alone

segments-take : (ns body : List ℕ) → segments ns (take (sum ns) body) ≡ segments ns body
unfolding segments
segments-take [] body = refl
segments-take (n ∷ ns) body =
    let total : sum (n ∷ ns) ≡ n + sum ns = sum_by-cons (λ x. x) n ns in
    let front : take n (take (n + sum ns) body) ≡ take n body = take-take n (n + sum ns) body (omega arith) in
    let rest : drop n (take (n + sum ns) body) ≡ take (sum ns) (drop n body) = drop-take n (sum ns) body in
    ap (λ t. segments (n ∷ ns) (take t body)) total
    ∙ ap₂ (λ (s : List ℕ) (ss : List Segment). (n, s) ∷ ss) front (ap (segments ns) rest ∙ segments-take ns (drop n body))

pub segments_of-body : (bytes : List ℕ) (p : PageRef) → IsPageOf bytes p → segments_of bytes p ≡ segments (laces_of bytes p) (body_of bytes p)
segments_of-body bytes p h =
    sym (ap (λ n. segments (laces_of bytes p) (take n (from_body bytes p))) (body-is bytes p h) ∙ segments-take (laces_of bytes p) (from_body bytes p))

-- ---- one packet

-- an open packet with one segment and another
with_two : (pending : Option (List ℕ)) (s t : List ℕ) → with_segment (Some (with_segment pending s)) t ≡ with_segment pending (s ++ t)
with_two None s t = refl
with_two (Some before) s t = append_assoc before s t

-- a packet of so many full segments and one of r bytes, before others
module _ (r : ℕ) (ns rest : List ℕ) (short : r < 255) where
  front_ends : (mark : Option Mark) (k : ℕ) (pending : Option (List ℕ)) (q : List ℕ) → length q ≡ k * 255 + r
      → packets_ended mark pending (segments (replicate k 255 ++ (r ∷ ns)) (q ++ rest))
      ≡ packet (with_segment pending q) (if list_any ends (segments ns rest) then None else mark) ∷ packets_ended mark None (segments ns rest)
  unfolding segments packets_ended
  front_ends mark zero pending q e =
      let front : take r (q ++ rest) ≡ q = take_at q rest r (omega arith) in
      let back : drop r (q ++ rest) ≡ rest = drop_at q rest r (omega arith) in
      let last : nat_lt r 255 ≡ true = lt-ltb r 255 short in
      rw (front, back, last) refl
  front_ends mark (suc k) pending q e =
      let long : 255 ≤ length q = omega arith in
      let front : take 255 (q ++ rest) ≡ take 255 q = take-append-le 255 q rest long in
      let back : drop 255 (q ++ rest) ≡ drop 255 q ++ rest = drop-append-le 255 q rest long in
      let whole : with_segment (Some (with_segment pending (take 255 q))) (drop 255 q) ≡ with_segment pending q = with_two pending (take 255 q) (drop 255 q) ∙ ap (with_segment pending) (take-append-drop 255 q) in
      rw (front, back) (front_ends mark k (Some (with_segment pending (take 255 q))) (drop 255 q) (omega (arith, length-drop 255 q))
      ∙ ap (λ (bytes : List ℕ). packet bytes (if list_any ends (segments ns rest) then None else mark) ∷ packets_ended mark None (segments ns rest)) whole)

  front_leaves : (k : ℕ) (pending : Option (List ℕ)) (q : List ℕ) → length q ≡ k * 255 + r
      → left_pending pending (segments (replicate k 255 ++ (r ∷ ns)) (q ++ rest)) ≡ left_pending None (segments ns rest)
  unfolding segments left_pending
  front_leaves zero pending q e =
      let back : drop r (q ++ rest) ≡ rest = drop_at q rest r (omega arith) in
      let last : nat_lt r 255 ≡ true = lt-ltb r 255 short in
      rw (back, last) refl
  front_leaves (suc k) pending q e =
      let long : 255 ≤ length q = omega arith in
      let back : drop 255 (q ++ rest) ≡ drop 255 q ++ rest = drop-append-le 255 q rest long in
      rw back (front_leaves k (Some (with_segment pending (take 255 (q ++ rest)))) (drop 255 q) (omega (arith, length-drop 255 q)))

  front_has_end : (k : ℕ) (body : List ℕ) → list_any ends (segments (replicate k 255 ++ (r ∷ ns)) body) ≡ true
  unfolding segments
  front_has_end zero body = let last : nat_lt r 255 ≡ true = lt-ltb r 255 short in rw last refl
  front_has_end (suc k) body = front_has_end k (drop 255 body)

-- by the packet's lacing values
module _ (q ns rest : List ℕ) where
  laces_then : packet_laces q ++ ns ≡ replicate (length q / 255) 255 ++ (length q % 255 ∷ ns)
  laces_then = append_assoc (replicate (length q / 255) 255) (length q % 255 ∷ []) ns

  short_end : length q % 255 < 255
  short_end = omega arith

  by_segments : length q ≡ length q / 255 * 255 + length q % 255
  by_segments = omega arith

  packet_ends : (mark : Option Mark) → packets_ended mark None (segments (packet_laces q ++ ns) (q ++ rest))
      ≡ packet q (if list_any ends (segments ns rest) then None else mark) ∷ packets_ended mark None (segments ns rest)
  packet_ends mark = ap (λ (ls : List ℕ). packets_ended mark None (segments ls (q ++ rest))) laces_then ∙ front_ends (length q % 255) ns rest short_end mark (length q / 255) None q by_segments

  packet_leaves : left_pending None (segments (packet_laces q ++ ns) (q ++ rest)) ≡ left_pending None (segments ns rest)
  packet_leaves = ap (λ (ls : List ℕ). left_pending None (segments ls (q ++ rest))) laces_then ∙ front_leaves (length q % 255) ns rest short_end (length q / 255) None q by_segments

  packet_has_end : list_any ends (segments (packet_laces q ++ ns) (q ++ rest)) ≡ true
  packet_has_end = ap (λ (ls : List ℕ). list_any ends (segments ls (q ++ rest))) laces_then ∙ front_has_end (length q % 255) ns rest short_end (length q / 255) (q ++ rest)

-- ---- the packets of a page

pub packets_on_page : (mark : Mark) (qs : List (List ℕ)) → packets_ended (Some mark) None (segments (flat_map packet_laces qs) (flat_map (λ q. q) qs)) ≡ marked_last mark qs
unfolding segments packets_ended
packets_on_page mark [] = refl
packets_on_page mark (q ∷ []) = packet_ends q [] [] (Some mark)
packets_on_page mark (q ∷ r ∷ qs) =
    let ns = flat_map packet_laces qs in
    let rest = flat_map (λ (q : List ℕ). q) qs in
    packet_ends q (packet_laces r ++ ns) (r ++ rest) (Some mark)
    ∙ ap (λ b. packet q (if b then None else Some mark) ∷ packets_ended (Some mark) None (segments (packet_laces r ++ ns) (r ++ rest))) (packet_has_end r ns rest)
    ∙ ap (λ (items : List StreamItem). packet q None ∷ items) (packets_on_page mark (r ∷ qs))

pub nothing_left_open : (qs : List (List ℕ)) → left_pending None (segments (flat_map packet_laces qs) (flat_map (λ q. q) qs)) ≡ None
unfolding segments left_pending
nothing_left_open [] = refl
nothing_left_open (q ∷ qs) = packet_leaves q (flat_map packet_laces qs) (flat_map (λ q. q) qs) ∙ nothing_left_open qs
