-- A page that is written, and read again (RFC 3533, section 6).
use Rattle.std.specs.Prelude.{◌≡◌, ℕ, List, ◌∷◌, ◌++◌, length}
use Rattle.model_ogg.specs.declared.page.PageRef.{PageRef}
use Rattle.model_ogg.specs.Pages.{laces_of, body_of, pages}
use Rattle.model_ogg.specs.Writing.{PageFields}
use Rattle.ogg_pages.specs.declared.page_out.PageOut.{PageOut}

-- what a page says that is to be written
abbrev pub fields_to_write : PageOut → PageFields
fields_to_write page = record {
  flags = page.flags;
  granule = page.granule;
  serial = page.serial;
  sequence = page.sequence;
  laces = page.laces.now;
  body = page.body.now;
}

-- what the header of a page says where the page stands at place 0
abbrev pub ref_of : PageOut → PageRef
ref_of page = record {
  place = 0;
  flags = page.flags;
  granule = page.granule;
  serial = page.serial;
  sequence = page.sequence;
  segments = length page.laces.now;
  body = length page.body.now;
}

-- These bytes are that page: whatever bytes follow, it is the first page, at place 0, with these
-- lacing values and this body, and the others are those behind it.
pub record IsWritten (page : PageOut) (bytes : List ℕ) : Type 0 where
  pub first : (rest : List ℕ)
      → pages (bytes ++ rest) 0 ≡ ref_of page ∷ pages (bytes ++ rest) (length bytes)
  pub laces : (rest : List ℕ) → laces_of (bytes ++ rest) (ref_of page) ≡ page.laces.now
  pub body : (rest : List ℕ) → body_of (bytes ++ rest) (ref_of page) ≡ page.body.now
