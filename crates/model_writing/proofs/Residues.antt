-- Residues.
use Rattle.std.proofs.Common.{◌≡◌, ℕ, zero, suc, ◌+◌, ◌-◌, ◌*◌, ◌/◌, ◌%◌, ◌^◌, ◌<◌, List, [], ◌∷◌, ◌++◌, length, flat_map, Option, Some, refl, sym, ap, subst, ◌∙◌, ◌==◌, Bool, true, false, arith, eqb-true, if◌then◌else◌}
use Rattle.std.specs.Prelude.{is_some}
use Rattle.std.specs.List.{All, AllZip, range_with_len}
use Rattle.std.proofs.lemmas.Bool.{eqb-false}
use Rattle.std.proofs.Math.Nat.{div-div-eq-div-mul}
use Rattle.model_bits.specs.Bits.{bit_value}
use Rattle.model_bits.specs.Reading.{Reading, ◌>>=◌, give}
use Rattle.model_bits.specs.Writing.{WrittenField, HasPlace, WasRead, Rewrites, in_bits, optional_byte}
use Rattle.std.proofs.lemmas.Nat.{pow-add, mod-pow-add}
use Rattle.model_setup.specs.declared.residue.ResidueFault.{ResidueFault}
use Rattle.model_setup.specs.declared.residue.ResidueFault.TheVariants as causes
use Rattle.model_setup.specs.Codebook.{Codebook}
use Rattle.model_setup.specs.ResidueSetup.{ResidueSetup, names_classes, has_values}
use Rattle.model_setup.specs.ResidueReading.{residue_field, kind_at, serves, serving_book_at, pass_flags_at, pass_book_at, cascade_at, cascades_at, residue_at}
use Rattle.model_writing.specs.SetupWriting.{residue_type, pass_flags, cascade_fields, residue_fields}
use Rattle.model_writing.proofs.Kept.{Kept, kept_back, kept_fits, Gives, AreRead, gives_bind, gives_number, gives_chosen, gives_done, are_number, are_given, are_in_turn, are_map, kept, bind, last, ends, done, tested, chosen, refused, number, in_row, of_each}

kind_kept : (type : ℕ) → Kept (kind_at type) (λ kind. []) (λ kind. type ≡ residue_type kind)
kind_kept type =
    kept (chosen (type == 0) (λ zero. done (refl, eqb-true type 0 zero))
    (λ not0. chosen (type == 1) (λ one. done (refl, eqb-true type 1 one))
    (λ not1. chosen (type == 2) (λ two. done (refl, eqb-true type 2 two))
    (λ not2. refused causes.Kind))))

serving_kept : (test : Codebook → Bool) (books : List Codebook) → Kept (serving_book_at test books) (in_bits 8) (λ n. Unit {0})
unfolding serving_book_at
serving_kept test books = kept (bind (number causes.End 8) (λ n small. tested (serves test books n) causes.Book (λ h. done (refl, tt))))

-- the flags of a class's passes, as they are written
abbrev flag_fields : ℕ → List WrittenField
flag_fields flags = in_bits 3 (flags % 8) ++ (if flags / 8 == 0 then in_bits 1 0 else in_bits 1 1 ++ in_bits 5 (flags / 8))

-- a book of a pass, where the flags say that there is one
pass_kept : (books : List Codebook) (flags pass : ℕ) → Kept (pass_book_at books flags pass) optional_byte (λ book. bit_value (is_some book) ≡ flags / 2 ^ pass % 2)
unfolding pass_book_at
pass_kept books flags pass =
    kept (chosen (flags / 2 ^ pass % 2 == 1)
    (λ set. last (λ book. Some book) (serving_kept has_values books) (λ book u. (refl, sym (eqb-true (flags / 2 ^ pass % 2) 1 set))))
    (λ clear. done (refl, (let one : (flags / 2 ^ pass % 2 ≡ 1 → ⊥) = eqb-false (flags / 2 ^ pass % 2) 1 clear in let e : 0 ≡ flags / 2 ^ pass % 2 = omega arith in e))))

-- the flags of passes from one on, each by its book
flags_from : (flags first count : ℕ) (cascade : List (Option ℕ)) → AllZip (λ pass book. bit_value (is_some book) ≡ flags / 2 ^ pass % 2) (range_with_len first count) cascade
    → pass_flags cascade ≡ flags / 2 ^ first % 2 ^ count
flags_from flags first zero [] pairs = let e : 0 ≡ flags / 2 ^ first % 1 = omega arith in e
flags_from flags first zero (book ∷ books) pairs = absurd pairs
flags_from flags first (suc count) [] pairs = absurd pairs
flags_from flags first (suc count) (book ∷ books) pairs =
    let q = flags / 2 ^ first in
    let half : flags / 2 ^ (first + 1) ≡ q / 2 = ap (λ m. flags / m) (pow-add 2 first 1) ∙ sym (div-div-eq-div-mul flags (2 ^ first) 2) in
    let others : pass_flags books ≡ q / 2 % 2 ^ count = flags_from flags (first + 1) count books pairs.1 ∙ ap (λ n. n % 2 ^ count) half in
    let more : suc count ≡ count + 1 = omega arith in
    let split : q % 2 ^ suc count ≡ q / 2 % 2 ^ count * 2 + q % 2 = ap (λ n. q % 2 ^ n) more ∙ mod-pow-add q count 1 in
    let one : bit_value (is_some book) ≡ q % 2 = pairs.0 in
    omega (arith, others, split, one)

cascade_kept : (books : List Codebook) (flags : ℕ) → flags < 2 ^ 8 → Kept (cascade_at books flags) (flat_map optional_byte) (λ cascade. pass_flags cascade ≡ flags)
unfolding cascade_at
cascade_kept books flags small =
    kept (ends (of_each {Right = λ pass. Unit {0}} (range_with_len 0 8) (λ pass u. pass_kept books flags pass) (tt, (tt, (tt, (tt, (tt, (tt, (tt, (tt, tt)))))))))
    (λ cascade pairs. (refl, flags_from flags 0 8 cascade pairs ∙ (let e : flags / 1 % 2 ^ 8 ≡ flags = omega arith in e))))

abbrev high_at : ℕ → Reading ResidueFault ℕ
high_at flag = if flag == 1 then residue_field 5 else give 0

flags_give : Gives pass_flags_at (λ flags. flags < 2 ^ 8)
unfolding pass_flags_at
flags_give =
    gives_bind (gives_number causes.End 3) (λ low l. gives_bind (gives_number causes.End 1) (λ flag f.
    gives_bind {Fact = λ high. high < 2 ^ 5} (gives_chosen (flag == 1) (λ yes. gives_number causes.End 5) (λ no. gives_done (omega arith)))
    (λ high h. gives_done (omega arith))))

flags_are : (flags : ℕ) (b : Bool) → (flags / 8 == 0) ≡ b → flags < 2 ^ 8 → AreRead pass_flags_at flags (in_bits 3 (flags % 8) ++ (if b then in_bits 1 0 else in_bits 1 1 ++ in_bits 5 (flags / 8)))
unfolding pass_flags_at
flags_are flags true low small =
    let e : 8 * 0 + flags % 8 ≡ flags = let none = eqb-true (flags / 8) 0 low in omega arith in
    subst (λ n. AreRead pass_flags_at n (in_bits 3 (flags % 8) ++ in_bits 1 0)) e
    (are_in_turn (λ low. residue_field 1 >>= λ flag. high_at flag >>= λ high. give (8 * high + low)) (flags % 8) (are_number causes.End 3 (flags % 8) (omega arith))
    (are_in_turn (λ flag. high_at flag >>= λ high. give (8 * high + flags % 8)) 0 (are_number causes.End 1 0 (omega arith)) (are_map (λ high. 8 * high + flags % 8) (are_given 0))))
flags_are flags false high small =
    let e : 8 * (flags / 8) + flags % 8 ≡ flags = omega arith in
    subst (λ n. AreRead pass_flags_at n (in_bits 3 (flags % 8) ++ (in_bits 1 1 ++ in_bits 5 (flags / 8)))) e
    (are_in_turn (λ low. residue_field 1 >>= λ flag. high_at flag >>= λ high. give (8 * high + low)) (flags % 8) (are_number causes.End 3 (flags % 8) (omega arith))
    (are_in_turn (λ flag. high_at flag >>= λ high. give (8 * high + flags % 8)) 1 (are_number causes.End 1 1 (omega arith)) (are_map (λ high. 8 * high + flags % 8) (are_number causes.End 5 (flags / 8) (omega arith)))))

flags_kept : Kept pass_flags_at flag_fields (λ flags. flags < 2 ^ 8)
flags_kept = record {
  at = λ flags was. let small = flags_give.at flags was in record { are = flags_are flags (flags / 8 == 0) refl small; fact = small };
}

same_flags : (flags : List ℕ) (cascades : List (List (Option ℕ))) → AllZip (λ f cascade. pass_flags cascade ≡ f) flags cascades → (length cascades ≡ length flags) × (flat_map flag_fields flags ≡ flat_map cascade_fields cascades)
same_flags [] [] pairs = (refl, refl)
same_flags [] (cascade ∷ cascades) pairs = absurd pairs
same_flags (f ∷ flags) [] pairs = absurd pairs
same_flags (f ∷ flags) (cascade ∷ cascades) pairs =
    let others = same_flags flags cascades pairs.1 in
    (ap suc others.0, ap (λ n. flag_fields n ++ flat_map flag_fields flags) (sym pairs.0) ∙ ap (λ fields. cascade_fields cascade ++ fields) others.1)

cascades_kept : (books : List Codebook) (classes : ℕ) → Kept (cascades_at books classes) (λ cascades. flat_map cascade_fields cascades ++ flat_map (flat_map optional_byte) cascades) (λ cascades. length cascades ≡ classes)
unfolding cascades_at
cascades_kept books classes =
    kept (bind (in_row classes flags_kept) (λ flags facts. ends (of_each flags (cascade_kept books) facts.1) (λ cascades pairs.
    let same = same_flags flags cascades pairs in
    (ap (λ fields. fields ++ flat_map (flat_map optional_byte) cascades) same.1, same.0 ∙ facts.0))))

pub residue_kept : (type : ℕ) (books : List Codebook) → Kept (residue_at type books) residue_fields (λ residue. type ≡ residue_type residue.kind)
unfolding residue_at
residue_kept type books =
    kept (bind (kind_kept type) (λ kind is.
    bind (number causes.End 24) (λ begin b.
    bind (number causes.End 24) (λ end e.
    bind (number causes.End 24) (λ size s.
    bind (number causes.End 6) (λ classes c.
    bind (serving_kept (names_classes (classes + 1)) books) (λ class_book u.
    last _ (cascades_kept books (classes + 1)) (λ cascades long.
    let e : size ≡ size + 1 - 1 = omega arith in
    let k : classes ≡ length cascades - 1 = omega (arith, long) in (
      ap (λ s. in_bits 24 begin ++ (in_bits 24 end ++ (in_bits 24 s ++ (in_bits 6 classes ++ (in_bits 8 class_book ++ (flat_map cascade_fields cascades ++ flat_map (flat_map optional_byte) cascades)))))) e
          ∙ ap (λ c. in_bits 24 begin ++ (in_bits 24 end ++ (in_bits 24 (size + 1 - 1) ++ (in_bits 6 c ++ (in_bits 8 class_book ++ (flat_map cascade_fields cascades ++ flat_map (flat_map optional_byte) cascades)))))) k,
      is,
    )))))))))

pub residue_back : (type : ℕ) (books : List Codebook) → Rewrites (residue_at type books) residue_fields
residue_back type books = kept_back (residue_kept type books)

pub residue_fits : (type : ℕ) (books : List Codebook) (residue : ResidueSetup) → WasRead (residue_at type books) residue → All HasPlace (residue_fields residue)
residue_fits type books = kept_fits (residue_kept type books)
