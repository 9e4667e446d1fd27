-- Pages that are written are found again.
use Rattle.std.proofs.Common.{◌≡◌, ℕ, zero, suc, ◌+◌, ◌*◌, ◌%◌, ◌^◌, ◌<◌, true, false, nat_le, cond, ltb, bit_xor, List, [], ◌∷◌, ◌++◌, length, take, drop, map, sum, fold, Option, Some, None, IfSome, refl, sym, ap, subst, ◌∙◌, lit<, arith, append_assoc, length-append}
use Rattle.std.specs.Int.{w32, w64, to_le_bytes}
use Rattle.std.specs.List.{AllByRecursion}
use Rattle.std.proofs.lemmas.Bool.{le-leb, eq-eqb, lt-ltb}
use Rattle.std.proofs.lemmas.List.{take_all, take-append-le, drop-drop}
use Rattle.std.proofs.lemmas.List.Elements.{recursion_from_All}
use Rattle.std.proofs.lemmas.Nat.{xor_of_32, from_le_bytes-to_le_bytes_4, from_le_bytes-to_le_bytes_8}
use Rattle.std.proofs.Math.Seq.{drop-append_seam}
use Rattle.byteorder.specs.Endian.{little_number}
use Rattle.model_ogg.specs.declared.page.TheConstants.{HEADER_LEN}
use Rattle.model_ogg.specs.declared.page.PageRef.{PageRef}
use Rattle.model_ogg.specs.Checksum.{polynomial, shifted, shifted_times, with_byte, read_as, counted, checksum_of}
use Rattle.model_ogg.specs.Pages.{laces, page_len, granule_of, page_ref, is_right_page, begins_page, pages_behind}
use Rattle.model_ogg.specs.Writing.{PageFields, granule_number, behind_checksum, with_checksum, written_page, written_pages, fields_of, HasPlaces, PagesReadBack}
use Rattle.model_ogg.proofs.PageLaws.{at_page}

-- ---- a checksum has 32 bits

doubled_small : (r : ℕ) → 2 * r % 2 ^ 32 < 2 ^ 32
doubled_small r = omega arith

pub shifted-small : (r : ℕ) → shifted r < 2 ^ 32
unfolding shifted
shifted-small r = elim (ltb r 2147483648) as (λ low. cond low (2 * r % 2 ^ 32) (bit_xor (2 * r % 2 ^ 32) polynomial) < 2 ^ 32) [
  | true ↦ doubled_small r
  | false ↦ xor_of_32 (2 * r % 2 ^ 32) polynomial (doubled_small r) (lit< tt)
]

shifted_times-small : (n r : ℕ) → r < 2 ^ 32 → shifted_times n r < 2 ^ 32
unfolding shifted_times
shifted_times-small zero r small = small
shifted_times-small (suc n) r small = shifted_times-small n (shifted r) (shifted-small r)

pub with_byte-small : (r b : ℕ) → with_byte r b < 2 ^ 32
unfolding with_byte shifted_times
with_byte-small r b = shifted_times-small 7 (shifted (bit_xor r (b * 2 ^ 24))) (shifted-small (bit_xor r (b * 2 ^ 24)))

fold-small : (r : ℕ) (bytes : List ℕ) → r < 2 ^ 32 → fold with_byte r bytes < 2 ^ 32
fold-small r [] small = small
fold-small r (b ∷ bs) small = fold-small (with_byte r b) bs (with_byte-small r b)

-- whatever the bytes are
pub checksum_of-small : (bytes : List ℕ) → checksum_of bytes < 2 ^ 32
unfolding checksum_of
checksum_of-small bytes = fold-small 0 (counted 0 bytes) (lit< tt)

-- ---- numbers and lists as they are written

little_4 : (n : ℕ) (rest : List ℕ) → n < 2 ^ 32 → little_number 4 (to_le_bytes w32 n ++ rest) ≡ n
little_4 n rest fits = omega (arith, from_le_bytes-to_le_bytes_4 n fits)

little_8 : (n : ℕ) (rest : List ℕ) → n < 2 ^ 64 → little_number 8 (to_le_bytes w64 n ++ rest) ≡ n
little_8 n rest fits = omega (arith, from_le_bytes-to_le_bytes_8 n fits)

-- a list that stands before another is its front
pub front_of : (xs ys : List ℕ) → take (length xs) (xs ++ ys) ≡ xs
front_of xs ys = take-append-le (length xs) xs ys (omega arith) ∙ take_all (length xs) xs (omega arith)

granule_back : (granule : Option ℕ) → IfSome granule (λ g. g < 2 ^ 63) → granule_of (granule_number granule) ≡ granule
unfolding granule_of
granule_back None fits = refl
granule_back (Some g) fits = rw (lt-ltb g 9223372036854775808 fits) refl

granule_fits : (granule : Option ℕ) → IfSome granule (λ g. g < 2 ^ 63) → granule_number granule < 2 ^ 64
granule_fits None fits = omega arith
granule_fits (Some g) fits = omega (arith, fits)

-- ---- one page at the front, and whatever bytes behind it

module _ (page : PageFields) where
  -- the field of the checksum counts as 0
  own_field : (own : ℕ) → checksum_of (with_checksum page own) ≡ checksum_of (with_checksum page 0)
  unfolding checksum_of counted read_as
  own_field own = refl

  -- the page's header, where it stands at a place
  abbrev pub header_at : ℕ → PageRef
  header_at place = record { place = place; flags = page.flags; granule = page.granule; serial = page.serial; sequence = page.sequence; segments = length page.laces; body = length page.body }

  -- the same with numbers as they are read
  abbrev header_read : ℕ → Option ℕ → ℕ → ℕ → ℕ → PageRef
  header_read place g s q n = record { place = place; flags = page.flags; granule = g; serial = s; sequence = q; segments = length page.laces; body = n }

  module _ (own : ℕ) (rest : List ℕ) (places : HasPlaces page) where
    laces_back : laces (with_checksum page own ++ rest) ≡ page.laces
    laces_back = ap (take (length page.laces)) (append_assoc page.laces page.body rest) ∙ front_of page.laces (page.body ++ rest)

    body_back : take (length page.body) (drop (HEADER_LEN + length page.laces) (with_checksum page own ++ rest)) ≡ page.body
    body_back =
        ap (take (length page.body)) (sym (drop-drop (length page.laces) 27 (with_checksum page own ++ rest)))
        ∙ ap (λ bs. take (length page.body) (drop (length page.laces) bs)) (append_assoc page.laces page.body rest)
        ∙ ap (take (length page.body)) (drop-append_seam page.laces (page.body ++ rest)) ∙ front_of page.body rest

    sum_back : sum (laces (with_checksum page own ++ rest)) ≡ length page.body
    sum_back = ap sum laces_back ∙ places.body

    len_back : page_len (with_checksum page own ++ rest) ≡ length (with_checksum page own)
    unfolding page_len
    len_back = omega (arith, sum_back, length-append page.laces page.body)

    part_back : take (page_len (with_checksum page own ++ rest)) (with_checksum page own ++ rest) ≡ with_checksum page own
    part_back = ap (λ n. take n (with_checksum page own ++ rest)) len_back ∙ front_of (with_checksum page own) rest

    right : own ≡ checksum_of (with_checksum page 0) → is_right_page (with_checksum page own) ≡ true
    unfolding is_right_page
    right is_own =
        let fits = subst (λ n. n < 2 ^ 32) (sym is_own) (checksum_of-small (with_checksum page 0)) in
        eq-eqb (little_number 4 (to_le_bytes w32 own ++ behind_checksum page)) (checksum_of (with_checksum page own)) (little_4 own (behind_checksum page) fits ∙ is_own ∙ sym (own_field own))

    begins : own ≡ checksum_of (with_checksum page 0) → begins_page (with_checksum page own ++ rest) ≡ true
    unfolding begins_page
    begins is_own =
        let within : nat_le (page_len (with_checksum page own ++ rest)) (length (with_checksum page own ++ rest)) ≡ true =
        le-leb (page_len (with_checksum page own ++ rest)) (length (with_checksum page own ++ rest)) (omega (arith, len_back, length-append (with_checksum page own) rest)) in
        rw within (ap is_right_page part_back ∙ right is_own)

    ref_back : (place : ℕ) → page_ref place (with_checksum page own ++ rest) ≡ header_at place
    unfolding page_ref
    ref_back place =
        let last = (to_le_bytes w32 own ++ behind_checksum page) ++ rest in
        let at_sequence = to_le_bytes w32 page.sequence ++ last in
        let at_serial = to_le_bytes w32 page.serial ++ at_sequence in
        let g : granule_of (little_number 8 (to_le_bytes w64 (granule_number page.granule) ++ at_serial)) ≡ page.granule = ap granule_of (little_8 (granule_number page.granule) at_serial (granule_fits page.granule places.granule)) ∙ granule_back page.granule places.granule in
        ap (λ x. header_read place x (little_number 4 at_serial) (little_number 4 at_sequence) (sum (laces (with_checksum page own ++ rest)))) g
        ∙ ap (λ x. header_read place page.granule x (little_number 4 at_sequence) (sum (laces (with_checksum page own ++ rest)))) (little_4 page.serial at_sequence places.serial)
        ∙ ap (λ x. header_read place page.granule page.serial x (sum (laces (with_checksum page own ++ rest)))) (little_4 page.sequence last places.sequence)
        ∙ ap (λ x. header_read place page.granule page.serial page.sequence x) sum_back

  module _ (rest : List ℕ) (places : HasPlaces page) where
    -- the pages from its place on: it, and those behind it
    pub written_page-first : (place : ℕ) → pages_behind place 0 (written_page page ++ rest) ≡ header_at place ∷ pages_behind (place + length (written_page page)) 0 rest
    unfolding written_page
    written_page-first place =
        let own = checksum_of (with_checksum page 0) in
        let all = with_checksum page own ++ rest in
        at_page place all (omega arith) (begins own rest places refl)
        ∙ ap (λ r. r ∷ pages_behind (place + page_len all) 0 (drop (page_len all) all)) (ref_back own rest places place)
        ∙ ap (λ n. header_at place ∷ pages_behind (place + n) 0 (drop n all)) (len_back own rest places)
        ∙ ap (λ bs. header_at place ∷ pages_behind (place + length (with_checksum page own)) 0 bs) (drop-append_seam (with_checksum page own) rest)

    -- its lacing values
    pub written_page-laces : laces (written_page page ++ rest) ≡ page.laces
    unfolding written_page
    written_page-laces = laces_back (checksum_of (with_checksum page 0)) rest places

    -- its body
    pub written_page-body : take (length page.body) (drop (HEADER_LEN + length page.laces) (written_page page ++ rest)) ≡ page.body
    unfolding written_page
    written_page-body = body_back (checksum_of (with_checksum page 0)) rest places

    -- what it says, where it stands behind other bytes
    fields_back : (before : List ℕ) → fields_of (before ++ (written_page page ++ rest)) (header_at (length before)) ≡ page
    fields_back before =
        let behind = drop-append_seam before (written_page page ++ rest) in
        let said = λ (ls bs : List ℕ). record page { laces = ls; body = bs } in
        ap (λ (all : List ℕ). said (laces all) (take (length page.body) (drop (HEADER_LEN + length page.laces) all))) behind
        ∙ ap (λ ls. said ls (take (length page.body) (drop (HEADER_LEN + length page.laces) (written_page page ++ rest)))) written_page-laces
        ∙ ap (λ bs. said page.laces bs) written_page-body

-- ---- pages one behind the other

-- behind whatever bytes
found_behind : (before : List ℕ) (ps : List PageFields) → AllByRecursion HasPlaces ps
    → map (fields_of (before ++ written_pages ps)) (pages_behind (length before) 0 (written_pages ps)) ≡ ps
unfolding pages_behind
found_behind before [] places = refl
found_behind before (p ∷ ps) places =
    let rest = written_pages ps in
    let all = before ++ (written_page p ++ rest) in
    let moved : before ++ written_page p ++ rest ≡ all = append_assoc before (written_page p) rest in
    let behind = found_behind (before ++ written_page p) ps places.1 in
    ap (map (fields_of all)) (written_page-first p rest places.0 (length before))
    ∙ ap (λ q. q ∷ map (fields_of all) (pages_behind (length before + length (written_page p)) 0 rest)) (fields_back p rest places.0 before)
    ∙ ap (λ qs. p ∷ qs) (
    ap (λ n. map (fields_of all) (pages_behind n 0 rest)) (sym (length-append before (written_page p)))
    ∙ ap (λ (bytes : List ℕ). map (fields_of bytes) (pages_behind (length (before ++ written_page p)) 0 rest)) (sym moved)
    ∙ behind)

pub pages_read_back_law : PagesReadBack
pages_read_back_law ps places = found_behind [] ps (recursion_from_All HasPlaces ps places)
