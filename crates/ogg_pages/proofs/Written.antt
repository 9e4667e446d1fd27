-- A page that is written is read again.
use Rattle.std.proofs.Common.{◌≡◌, ℕ, List, ◌∷◌, ◌++◌, length, take, drop, sym, ap, ◌∙◌, arith}
use Rattle.std.proofs.Math.Seq.{drop-append_seam}
use Rattle.model_ogg.specs.Pages.{pages_behind}
use Rattle.model_ogg.specs.Writing.{written_page, HasPlaces}
use Rattle.model_ogg.proofs.WrittenPages.{front_of, written_page-first, written_page-laces, written_page-body}
use Rattle.ogg_pages.specs.declared.page_out.PageOut.{PageOut}
use Rattle.ogg_pages.specs.Written.{IsWritten, fields_to_write, ref_of}

pub written : (page : PageOut) → HasPlaces (fields_to_write page) → IsWritten page (written_page (fields_to_write page))
written page places =
    let fields = fields_to_write page in
    let bytes = written_page fields in
    record {
      first = λ rest. written_page-first fields rest places 0
          ∙ ap (λ n. ref_of page ∷ pages_behind n 0 rest) (omega arith)
          ∙ ap (λ behind. ref_of page ∷ pages_behind (length bytes) 0 behind) (sym (drop-append_seam bytes rest));
      laces = λ rest. written_page-laces fields rest places;
      body = λ rest. written_page-body fields rest places;
    }

-- the bytes of a list that was lent whole for writing
pub lent_whole : (len : ℕ) (new items : List ℕ) → length new ≡ len → take len (new ++ drop (length new) items) ≡ new
lent_whole len new items is = ap (λ n. take n (new ++ drop (length new) items)) (sym is) ∙ front_of new (drop (length new) items)
