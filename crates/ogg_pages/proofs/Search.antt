-- Where a page begins, its front stands; so a search for that front passes over no page.
use Rattle.std.proofs.Common.{◌≡◌, ℕ, zero, suc, ◌+◌, ◌-◌, ◌*◌, ◌^◌, ◌<◌, ◌≤◌, Bool, true, false, nat_le, cond, List, [], ◌∷◌, ◌++◌, length, take, drop, get_or, Some, None, refl, sym, ap, subst, ◌∙◌, inl, inr, arith}
use Rattle.std.specs.Prelude.{codes, fold}
use Rattle.std.proofs.lemmas.Bool.{and_parts, eqb-true, leb-true, cases_Bool, cases_lt}
use Rattle.std.proofs.lemmas.Bool.Decides.{Decides-eqb}
use Rattle.std.proofs.lemmas.Slice.Eq.{starts_is}
use Rattle.std.proofs.lemmas.List.{get_or-take, get_or-drop, drop-drop, length-drop, length-take-le}
use Rattle.memchr.specs.Find.{OccursAt, FindsNeedle}
use Rattle.model_ogg.specs.declared.page.TheConstants.{HEADER_LEN}
use Rattle.model_ogg.specs.declared.page.PageRef.{PageRef}
use Rattle.model_ogg.specs.Pages.{IsPageOf, len_of, page_len, is_right_page, begins_page, page_ref}
use Rattle.model_ogg.proofs.PageLaws.{page_len-least, page_ref-len, begins_page-fits}
use Rattle.ogg_pages.specs.declared.scanner.TheConstants.{MOST_PAGE_LEN}
use Rattle.ogg_pages.specs.Next.{page_front, whole_there, page_there, HasNoPage, IsNextPage, StandsWhole}
use Rattle.std.proofs.lemmas.Option.{cond_some}

right_front : (page : List ℕ) → is_right_page page ≡ true → (page ≡ codes "OggS" ++ drop 4 page) × (get_or page 4 0 ≡ 0)
unfolding is_right_page
right_front page e =
    let sum = and_parts _ _ e in
    let version = and_parts _ _ sum.0 in
    ((starts_is Decides-eqb page (codes "OggS") true (sym version.0)).0 refl, eqb-true (get_or page 4 0) 0 version.1)

in_front : (page : List ℕ) (j : ℕ) → j < 5 → page ≡ codes "OggS" ++ drop 4 page → get_or page 4 0 ≡ 0 → get_or page j 0 ≡ get_or page_front j 0
in_front page zero lt capture version = ap (λ (l : List ℕ). get_or l 0 0) capture
in_front page (suc zero) lt capture version = ap (λ (l : List ℕ). get_or l 1 0) capture
in_front page (suc (suc zero)) lt capture version = ap (λ (l : List ℕ). get_or l 2 0) capture
in_front page (suc (suc (suc zero))) lt capture version = ap (λ (l : List ℕ). get_or l 3 0) capture
in_front page (suc (suc (suc (suc zero)))) lt capture version = version
in_front page (suc (suc (suc (suc (suc j))))) lt capture version = absurd (omega arith)

begins_right : (bytes : List ℕ) → begins_page bytes ≡ true → is_right_page (take (page_len bytes) bytes) ≡ true
unfolding begins_page
begins_right bytes e = (and_parts _ _ e).1

front_at : (bytes : List ℕ) → begins_page bytes ≡ true → (j : ℕ) → j < 5 → get_or bytes j 0 ≡ get_or page_front j 0
front_at bytes e j lt =
    let n = page_len bytes in
    let long = page_len-least bytes in
    let right = right_front (take n bytes) (begins_right bytes e) in
    let taken : get_or bytes j 0 ≡ get_or (take n bytes) j 0 = sym (get_or-take n bytes j 0 (omega arith)) in
    taken ∙ in_front (take n bytes) j lt right.0 right.1

-- where a page begins, its front occurs
front_occurs : (bytes : List ℕ) (place k : ℕ) → begins_page (drop (k + place) bytes) ≡ true → OccursAt (drop place bytes) page_front k
front_occurs bytes place k e =
    let rest : drop k (drop place bytes) ≡ drop (k + place) bytes = drop-drop k place bytes ∙ ap (λ n. drop n bytes) (omega arith) in
    let here : begins_page (drop k (drop place bytes)) ≡ true = ap begins_page rest ∙ e in
    let fits = begins_page-fits (drop k (drop place bytes)) here in
    record {
      fits = omega (arith, page_len-least (drop k (drop place bytes)), length-drop k (drop place bytes));
      reads = λ j lt. sym (get_or-drop k (drop place bytes) j 0) ∙ front_at (drop k (drop place bytes)) here j lt;
    }

none_begins : (bytes : List ℕ) (place k : ℕ) → (OccursAt (drop place bytes) page_front k → ⊥) → begins_page (drop (k + place) bytes) ≡ false
none_begins bytes place k none =
    elim (cases_Bool (begins_page (drop (k + place) bytes))) [
      | inl yes_is ↦ absurd (none (front_occurs bytes place k yes_is))
      | inr no_is ↦ no_is
    ]

-- no page begins behind the end
pub none_behind : (bytes : List ℕ) (from place : ℕ) → length bytes < from → from ≤ place → begins_page (drop place bytes) ≡ false
none_behind bytes from place short le =
    elim (cases_Bool (begins_page (drop place bytes))) [
      | inl yes_is ↦ absurd (omega (arith, begins_page-fits (drop place bytes) yes_is, page_len-least (drop place bytes), length-drop place bytes))
      | inr no_is ↦ no_is
    ]

abbrev pub NoneFrom : List ℕ → ℕ → ℕ → Type 0
NoneFrom bytes from place = (k : ℕ) → from ≤ k → k < place → begins_page (drop k bytes) ≡ false

-- a place that is so far behind another
none_at : (bytes : List ℕ) (place k : ℕ) → place ≤ k → (OccursAt (drop place bytes) page_front (k - place) → ⊥) → begins_page (drop k bytes) ≡ false
none_at bytes place k le none =
    let there : k - place + place ≡ k = omega arith in
    ap (λ (i : ℕ). begins_page (drop i bytes)) (sym there) ∙ none_begins bytes place (k - place) none

-- no page is left where the front is nowhere
pub none_left : (bytes hay needle : List ℕ) (from place : ℕ) → NoneFrom bytes from place → hay ≡ drop place bytes → needle ≡ page_front → FindsNeedle hay needle 0 None → HasNoPage bytes from
none_left bytes hay needle from place before is_rest is_front none k le =
    let h = rw (is_rest, is_front) at none in
    elim (cases_lt k place) [
      | inl early ↦ before k le early
      | inr late ↦ none_at bytes place k late (λ occurs. h (k - place) (omega arith) (omega (arith, occurs.fits)) occurs)
    ]

-- where the front is found, no page begins before
pub record IsPassed (bytes : List ℕ) (from place : ℕ) : Type 0 where
  pub below : place < length bytes
  pub none : NoneFrom bytes from place

pub passed_over : (bytes hay needle : List ℕ) (from place k : ℕ) → NoneFrom bytes from place → place ≤ length bytes → hay ≡ drop place bytes → needle ≡ page_front → FindsNeedle hay needle 0 (Some k)
    → IsPassed bytes from (place + k)
passed_over bytes hay needle from place k before le is_rest is_front found =
    let h = rw (is_rest, is_front) at found in
    let fits = h.1.fits in
    let len = length-drop place bytes in
    let none : (i : ℕ) → from ≤ i → i < place + k → begins_page (drop i bytes) ≡ false =
    λ i low high. elim (cases_lt i place) [
      | inl early ↦ before i low early
      | inr late ↦ none_at bytes place i late (h.0.before (i - place) (omega arith) (omega arith))
    ] in
    record { below = omega arith; none = none }

page_ref-is : (bytes : List ℕ) (place : ℕ) → begins_page (drop place bytes) ≡ true → IsPageOf bytes (page_ref place (drop place bytes)) × ((page_ref place (drop place bytes)).place ≡ place)
unfolding page_ref
page_ref-is bytes place e =
    let len = page_ref-len place (drop place bytes) in
    (record { header = refl; right = e; within = omega (arith, begins_page-fits (drop place bytes) e, page_len-least (drop place bytes), length-drop place bytes, len) }, refl)

-- a page that stands at the place found
pub next_there : (bytes : List ℕ) (from place : ℕ) (page : PageRef) → from ≤ place → IsPassed bytes from place → Some page ≡ page_there bytes place → IsNextPage bytes from page
next_there bytes from place page le over there =
    let p = cond_some (begins_page (drop place bytes)) (page_ref place (drop place bytes)) page (sym there) in
    let is = page_ref-is bytes place p.0 in
    let here : page.place ≡ place = ap (λ (x : PageRef). x.place) (sym p.1) ∙ is.1 in
    record {
      page = subst (λ (x : PageRef). IsPageOf bytes x) p.1 is.0;
      after = omega arith;
      least = λ k low high. over.none k low (omega arith);
    }

cond_none : {A : Type 0} (b : Bool) (x : A) → cond b (Some x) None ≡ None → b ≡ false
cond_none true x e = absurd cc
cond_none false x e = refl

-- no page stands there
pub none_there : (bytes : List ℕ) (from place : ℕ) → IsPassed bytes from place → page_there bytes place ≡ None → NoneFrom bytes from (place + 1)
none_there bytes from place over there k low high =
    elim (cases_lt k place) [
      | inl early ↦ over.none k low early
      | inr late ↦
          let here : k ≡ place = omega arith in
          ap (λ (i : ℕ). begins_page (drop i bytes)) here ∙ cond_none (begins_page (drop place bytes)) (page_ref place (drop place bytes)) there
    ]

sum-most : (n start : ℕ) (bytes : List ℕ) → ((k : ℕ) → get_or bytes k 0 < 2 ^ 8) → fold ◌+◌ start (take n bytes) ≤ start + 255 * n
sum-most zero start bytes fits = omega arith
sum-most (suc n) start [] fits = omega arith
sum-most (suc n) start (b ∷ bytes) fits =
    let here : b < 2 ^ 8 = fits 0 in
    omega (arith, sum-most n (start + b) bytes (λ k. fits (suc k)))

-- a page has as many bytes at most as one with 255 segments of 255 bytes
page_len-most : (bytes : List ℕ) → ((k : ℕ) → get_or bytes k 0 < 2 ^ 8) → page_len bytes ≤ MOST_PAGE_LEN
unfolding page_len
page_len-most bytes fits =
    let behind : (k : ℕ) → get_or (drop HEADER_LEN bytes) k 0 < 2 ^ 8 = λ k. rw (get_or-drop HEADER_LEN bytes k 0) (fits (HEADER_LEN + k)) in
    omega (arith, fits 26, sum-most (get_or bytes 26 0) 0 (drop HEADER_LEN bytes) behind)

pub stands_whole : (bytes : List ℕ) (place len end : ℕ) (page : PageRef) → ((k : ℕ) → get_or bytes k 0 < 2 ^ 8) → place ≤ length bytes → len ≡ len_of page → end ≡ place + len
    → Some page ≡ whole_there (drop place bytes) place → StandsWhole bytes place end page
stands_whole bytes place len end page fits within is_len is_end e =
    let rest = drop place bytes in
    let p = cond_some (nat_le (page_len rest) (length rest)) (page_ref place rest) page (sym e) in
    let long : len_of page ≡ page_len rest = ap (λ (x : PageRef). len_of x) (sym p.1) ∙ page_ref-len place rest in
    let most = page_len-most rest (λ k. rw (get_or-drop place bytes k 0) (fits (place + k))) in
    let left : length rest ≡ length bytes - place = length-drop place bytes in
    let count : end - place ≡ page_len rest = omega arith in
    let inside : end - place ≤ length rest = omega (arith, leb-true (page_len rest) (length rest) p.0) in
    record {
      header = sym p.1;
      whole = p.0;
      part = ap (λ n. take n rest) count;
      long = ap (λ n. n + place) (length-take-le (end - place) rest inside) ∙ omega arith;
      within = omega arith;
      least = omega (arith, page_len-least rest);
      most = omega arith;
    }
