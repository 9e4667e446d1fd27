use Rattle.std.proofs.Common.{◌++◌, take, drop, sym, ap, subst, ◌∙◌, List, ℕ, arith}
use Rattle.std.specs.Int.{w32, to_le_bytes}
use Rattle.model_ogg.specs.Checksum.{checksum_of}
use Rattle.model_ogg.specs.Writing.{written_page, HasPlaces}
use Rattle.ogg_pages.specs.Written.{IsWritten, fields_to_write}
use Rattle.ogg_pages.proofs.Written.{written, lent_whole}
use Rattle.ogg_pages.proofs.page_out.page_bytes.Goals as goal

pub returns-clause-bytes : goal.returns-clause-bytes
unfolding written_page
returns-clause-bytes c =
    let bytes = c.in_ok-bytes.bytes in
    let before = c.deref_mut.ensures.value ∙ c.in_ok-bytes.ensures.bytes in
    lent_whole bytes.len c.put_checksum.new.page bytes.items (omega (arith, c.put_checksum.auto.page, c.deref_mut.ensures.len))
    ∙ c.put_checksum.ensures ∙ ap (λ xs. take 22 xs ++ (to_le_bytes w32 (checksum_of xs) ++ drop 26 xs)) before

pub returns-clause-found : goal.returns-clause-found
returns-clause-found c =
    let page = c.args.page.now in
    let places : HasPlaces (fields_to_write page) = record { granule = c.requires.granule; serial = c.in_ok-bytes.ensures.serial; sequence = c.in_ok-bytes.ensures.sequence; body = c.requires.body } in
    subst (λ (all : List ℕ). IsWritten page all) (sym (returns-clause-bytes c)) (written page places)
