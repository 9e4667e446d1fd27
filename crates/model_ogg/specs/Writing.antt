-- Pages as they are written (RFC 3533, section 6), and that they are found again.
use Rattle.std.specs.Prelude.{◌≡◌, ℕ, ◌^◌, ◌<◌, List, ◌∷◌, ◌++◌, length, map, sum, All, Option, Some, None, IfSome, codes}
use Rattle.std.specs.Int.{w32, w64, to_le_bytes}
use Rattle.std.specs.List.{flat_map}
use Rattle.model_ogg.specs.declared.page.PageRef.{PageRef}
use Rattle.model_ogg.specs.Checksum.{checksum_of}
use Rattle.model_ogg.specs.Pages.{laces_of, body_of, pages}

-- what a page says, wherever it stands
pub record PageFields : Type 0 where
  pub flags : ℕ
  pub granule : Option ℕ
  pub serial : ℕ
  pub sequence : ℕ
  pub laces : List ℕ
  pub body : List ℕ

-- the number that stands for a granule position (field 4)
abbrev pub granule_number : Option ℕ → ℕ
granule_number None = 18446744073709551615
granule_number (Some granule) = granule

-- what stands behind the field of the checksum
abbrev pub behind_checksum : PageFields → List ℕ
behind_checksum page = length page.laces ∷ (page.laces ++ page.body)

-- the bytes of a page with this number in the field of its checksum
abbrev pub with_checksum : PageFields → ℕ → List ℕ
with_checksum page own =
    codes "OggS" ++ (0 ∷ page.flags ∷ (to_le_bytes w64 (granule_number page.granule)
    ++ (to_le_bytes w32 page.serial ++ (to_le_bytes w32 page.sequence
    ++ (to_le_bytes w32 own ++ behind_checksum page)))))

-- the bytes of a page
unfoldable pub written_page : PageFields → List ℕ
written_page page = with_checksum page (checksum_of (with_checksum page 0))

-- pages, written one behind the other
abbrev pub written_pages : List PageFields → List ℕ
written_pages ps = flat_map written_page ps

-- what a page says that stands in bytes
abbrev pub fields_of : List ℕ → PageRef → PageFields
fields_of bytes page = record {
  flags = page.flags;
  granule = page.granule;
  serial = page.serial;
  sequence = page.sequence;
  laces = laces_of bytes page;
  body = body_of bytes page;
}

-- the pages that are found in bytes, each by what it says
abbrev pub fields_found : List ℕ → List PageFields
fields_found bytes = map (fields_of bytes) (pages bytes 0)

-- A page's granule position and its numbers have places in their fields, and its lacing values say
-- how long its body is.
pub record HasPlaces (page : PageFields) : Type 0 where
  pub granule : IfSome page.granule (λ granule. granule < 2 ^ 63)
  pub serial : page.serial < 2 ^ 32
  pub sequence : page.sequence < 2 ^ 32
  pub body : sum page.laces ≡ length page.body

-- Pages that are written one behind the other are found again, all of them and no others.
abbrev pub PagesReadBack : Type 0
PagesReadBack =
    (ps : List PageFields) → All HasPlaces ps → fields_found (written_pages ps) ≡ ps
