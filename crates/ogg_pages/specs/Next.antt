-- The next page of a list of bytes.
use Rattle.std.specs.Prelude.{◌≡◌, ℕ, ◌+◌, ◌≤◌, ◌<◌, true, false, nat_le, if◌then◌else◌, List, [], ◌∷◌, ◌++◌, length, take, drop, Option, Some, None, codes}
use Rattle.model_ogg.specs.declared.page.TheConstants.{HEADER_LEN}
use Rattle.model_ogg.specs.declared.page.PageRef.{PageRef}
use Rattle.model_ogg.specs.Pages.{IsPageOf, page_len, page_ref, begins_page}
use Rattle.ogg_pages.specs.declared.scanner.TheConstants.{MOST_PAGE_LEN}
use Rattle.ogg_pages.specs.Ring.{bytes_between}

-- what every page begins with: the capture bytes and version 0
abbrev pub page_front : List ℕ
page_front = codes "OggS" ++ 0 ∷ []

-- no right page begins at a place or behind it
abbrev pub HasNoPage : List ℕ → ℕ → Type 0
HasNoPage bytes from = (place : ℕ) → from ≤ place → begins_page (drop place bytes) ≡ false

-- p is the right page at the least place, not below a place, at which one begins
pub record IsNextPage (bytes : List ℕ) (from : ℕ) (p : PageRef) : Type 0 where
  pub page : IsPageOf bytes p
  pub after : from ≤ p.place
  pub least : (place : ℕ) → from ≤ place → place < p.place → begins_page (drop place bytes) ≡ false

-- what the header at the front says, where the page of it is whole
abbrev pub whole_there : List ℕ → ℕ → Option PageRef
whole_there rest place =
    if nat_le (page_len rest) (length rest) then Some (page_ref place rest) else None

-- the right page at a place, where one begins there
abbrev pub page_there : List ℕ → ℕ → Option PageRef
page_there bytes place =
    if begins_page (drop place bytes) then Some (page_ref place (drop place bytes)) else None

-- a whole page, right or not, stands between two places, and p is what its header says
pub record StandsWhole (bytes : List ℕ) (place end : ℕ) (p : PageRef) : Type 0 where
  pub header : p ≡ page_ref place (drop place bytes)
  pub whole : nat_le (page_len (drop place bytes)) (length (drop place bytes)) ≡ true
  pub part : bytes_between bytes place end ≡ take (page_len (drop place bytes)) (drop place bytes)
  pub long : length (bytes_between bytes place end) + place ≡ end
  pub within : end ≤ length bytes
  pub least : place + HEADER_LEN ≤ end
  pub most : end ≤ place + MOST_PAGE_LEN
