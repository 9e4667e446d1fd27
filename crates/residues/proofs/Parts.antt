-- Where a step finds its class and its book.
use Rattle.std.proofs.Common.{◌≡◌, ℕ, ◌+◌, ◌*◌, ◌^◌, ◌<◌, List, [], Bool, true, false, ◌&&◌, Option, Some, None, ℤ, length, get_or, refl, ap, sym, ◌∙◌, arith}
use Rattle.std.specs.Prelude.{IfSome, slice_index, option_and_then, nat_lt, nat_le}
use Rattle.std.specs.Option.{option_map_or}
use Rattle.std.proofs.lemmas.Bool.Decides.{nat_tests}
use Rattle.std.proofs.lemmas.List.{get_or_read}
use Rattle.std.proofs.lemmas.Nat.{mul-add-lt}
use Rattle.std.proofs.lemmas.Option.{slice_get-get_or}
use Rattle.model_setup.specs.Codebook.{Codebook}
use Rattle.model_setup.specs.ResidueSetup.{ResidueSetup, FitsBooks, Serves, names_classes}
use Rattle.model_setup.specs.ResidueDecoding.{Part, no_book, book_of, classwords_of, partition_count, pass_book, with_part, after_step}
use Rattle.residues.specs.Decoders.{IsDecoder, HasRows, state}
use Rattle.residues.specs.declared.decoder.Decoder.{Decoder}

pub book_found : (books : List Codebook) (number : ℕ) (d : Codebook) → number < length books → book_of books number ≡ get_or books number d
book_found books number d lt = ap (λ o. option_map_or (λ book. book) o no_book) (slice_get-get_or books number d lt)

pub book_serves : (test : Codebook → Bool) (books : List Codebook) (number : ℕ) (d : Codebook) → Serves test books number → test (get_or books number d) ≡ true
book_serves test books number d serves = rw (slice_get-get_or books number d serves.1) at serves.0

and_left : (a b : Bool) → a && b ≡ true → a ≡ true
and_left true b e = refl
and_left false b e = e

-- a class word names some classes
pub some_classwords : (books : List Codebook) (residue : ResidueSetup) → FitsBooks books residue → 0 < classwords_of books residue
some_classwords books residue fits =
    let serves = book_serves (names_classes (length residue.cascades)) books residue.class_book no_book fits.class_book in
    let book = get_or books residue.class_book no_book in
    let some = and_left (nat_lt 0 book.dimensions) (nat_le (length residue.cascades ^ book.dimensions) (length book.lengths)) serves in
    let same = ap (λ (b : Codebook). b.dimensions) (book_found books residue.class_book no_book fits.class_book.1) in
    rw same (grind (arith, nat_tests))

pub class_within : (d : Decoder) (classes : List ℕ) (vector partition : ℕ) → HasRows d classes → vector < length d.wanted.now → partition < d.partitions → vector * d.partitions + partition < length classes
class_within d classes vector partition rows lt part =
    let within : vector * d.partitions + partition < d.partitions * length d.wanted.now = mul-add-lt vector d.partitions partition (length d.wanted.now) lt part in
    let count = rows.count in
    omega arith

-- the class of a partition, as a step reads it
pub class_read : (d : Decoder) (classes : List ℕ) (vector partition : ℕ) → IsDecoder d → slice_index classes (vector * partition_count d.residue.now d.size + partition) ≡ get_or classes (vector * d.partitions + partition) 0
class_read d classes vector partition is = ap (λ n. get_or classes (vector * n + partition) 0) (sym is.partitions)

-- what a class names in a pass
pub pass_named : (residue : ResidueSetup) (class pass : ℕ) (cascade : List (Option ℕ)) → class < length residue.cascades → pass < length (get_or residue.cascades class []) → cascade ≡ get_or residue.cascades class cascade
    → pass_book residue class pass ≡ get_or cascade pass None
pass_named residue class pass cascade lt within read =
    ap (option_and_then (λ named. named)) (slice_get-get_or (get_or residue.cascades class []) pass None within)
    ∙ ap (λ (xs : List (Option ℕ)). get_or xs pass None) (sym (get_or_read residue.cascades class cascade lt read []))

pub named_of : (P : ℕ → Type 0) (residue : ResidueSetup) (class pass number : ℕ) (cascade : List (Option ℕ)) → class < length residue.cascades → cascade ≡ get_or residue.cascades class cascade → get_or cascade pass None ≡ Some number
    → IfSome (get_or (get_or residue.cascades class []) pass None) P → P number
named_of P residue class pass number cascade lt read some holds =
    rw (ap (λ (xs : List (Option ℕ)). get_or xs pass None) (sym (get_or_read residue.cascades class cascade lt read [])) ∙ some) at holds

-- a step over a part is what its book adds
pub part_is : (books : List Codebook) (residue : ResidueSetup) (size : ℕ) (vectors : List (List ℤ)) (classes : List ℕ) (left : List Bool) (pass partition vector class : ℕ) (named : Option ℕ)
    → slice_index classes (vector * partition_count residue size + partition) ≡ class → pass_book residue class pass ≡ named
    → after_step books residue size (state vectors classes left true) (Part pass partition vector) ≡ with_part books residue partition vector (state vectors classes left true) named
unfolding after_step
part_is books residue size vectors classes left pass partition vector class named read is =
    ap (λ k. with_part books residue partition vector (state vectors classes left true) (pass_book residue k pass)) read
    ∙ ap (with_part books residue partition vector (state vectors classes left true)) is
