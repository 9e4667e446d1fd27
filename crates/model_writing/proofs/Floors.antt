-- Floors.
use Rattle.std.proofs.Common.{◌≡◌, ℕ, suc, ◌+◌, ◌-◌, ◌^◌, ◌<◌, ◌≤◌, ◌∷◌, ◌++◌, length, drop, flat_map, Some, None, refl, sym, ap, ◌∙◌, ◌==◌, nat_lt, nat_le, Bool, true, false, arith, eqb-true, inl, inr, if◌then◌else◌}
use Rattle.std.specs.Prelude.{slice_index}
use Rattle.std.proofs.lemmas.List.{append_assoc, append-nil}
use Rattle.std.proofs.lemmas.Nat.{leading_length, pow_pos}
use Rattle.std.proofs.lemmas.Bool.{eqb-false, cases_lt}
use Rattle.std.proofs.Math.Pow.{pow_mono}
use Rattle.std.proofs.Math.Nat.{pow-succ'}
use Rattle.model_setup.specs.declared.floor.FloorFault.TheVariants as causes
use Rattle.model_setup.specs.declared.floor.TheConstants.{MOST_POINTS}
use Rattle.model_setup.specs.BookReading.{ilog}
use Rattle.model_bits.specs.Writing.{HasPlace, WasRead, Rewrites, in_bits, count_in_bits, optional_byte}
use Rattle.std.specs.List.{All}
use Rattle.model_setup.specs.FloorSetup.{FloorSetup, class_count, value_count, is_distinct}
use Rattle.model_setup.specs.FloorReading.{book_number_at, master_at, subclass_book_at, class_at, x_values_at, partition_classes_at, partitions_at, floor_at}
use Rattle.model_writing.specs.SetupWriting.{subclass_book_fields, class_fields, range_bits, floor_fields}
use Rattle.model_writing.proofs.Kept.{Kept, kept_back, kept_fits, kept, bind, last, ends, done, tested, chosen, number, in_row}
use Rattle.model_writing.proofs.Numbers.{count_is}

named_kept : (books : ℕ) → Kept (book_number_at books) (in_bits 8) (λ n. Unit {0})
unfolding book_number_at
named_kept books = kept (bind (number causes.End 8) (λ n small. tested (nat_lt n books) causes.Book (λ h. done (refl, tt))))

master_kept : (books subclass_bits : ℕ) → Kept (master_at books subclass_bits) optional_byte (λ master. Unit {0})
unfolding master_at
master_kept books subclass_bits = kept (chosen (subclass_bits == 0) (λ none. done (refl, tt)) (λ some. last (λ book. Some book) (named_kept books) (λ book u. (refl, tt))))

book_is : (n : ℕ) (b : Bool) → (n == 0) ≡ b → in_bits 8 n ≡ subclass_book_fields (if b then None else Some (n - 1))
book_is n true none = ap (in_bits 8) (eqb-true n 0 none)
book_is n false some = let one : (n ≡ 0 → ⊥) = eqb-false n 0 some in ap (in_bits 8) (let e : n ≡ n - 1 + 1 = omega arith in e)

subclass_kept : (books : ℕ) → Kept (subclass_book_at books) subclass_book_fields (λ book. Unit {0})
unfolding subclass_book_at
subclass_kept books = kept (bind (number causes.End 8) (λ n small. tested (nat_le n books) causes.Book (λ h. done (book_is n (n == 0) refl, tt))))

class_kept : (books : ℕ) → Kept (class_at books) class_fields (λ class. Unit {0})
unfolding class_at
class_kept books =
    kept (bind (number causes.End 3) (λ dimensions small.
    bind (number causes.End 2) (λ subclass_bits few.
    bind (master_kept books subclass_bits) (λ master u.
    last _ (in_row (2 ^ subclass_bits) (subclass_kept books)) (λ named facts.
    (ap (λ fields. fields ++ (in_bits 2 subclass_bits ++ (optional_byte master ++ flat_map subclass_book_fields named))) (count_is 3 dimensions), tt))))))

-- the binary digits of 2 ^ bits - 1 are so many
pub range_is : (bits : ℕ) → bits < 16 → ilog (2 ^ bits - 1) ≡ bits
range_is bits few =
    let some : 1 ≤ 2 ^ bits = pow_pos bits in
    let below : bits ≤ 16 = omega arith in
    let most : 2 ^ bits ≤ 2 ^ 16 = pow_mono below in
    let length = leading_length 32 (2 ^ bits - 1) (omega arith) in
    let m = length.0 in
    elim (cases_lt m bits) [
      | inl less ↦
          let p : 2 ^ suc m ≤ 2 ^ bits = pow_mono less in
          absurd (omega (arith, length.2, pow_pos m, pow-succ' 2 m))
      | inr enough ↦ elim (cases_lt bits m) [
        | inl more ↦
            let p : 2 ^ suc bits ≤ 2 ^ m = pow_mono more in
            absurd (omega (arith, length.3, pow-succ' 2 bits))
        | inr few ↦ omega (arith, length.1)
      ]
    ]

x_values_kept : (bits count : ℕ) → Kept (x_values_at bits count) (λ xs. flat_map (in_bits bits) (drop 2 xs)) (λ xs. slice_index xs 1 ≡ 2 ^ bits)
unfolding x_values_at
x_values_kept bits count =
    kept (tested (nat_le (count + 2) MOST_POINTS) causes.List (λ few. bind (in_row count (number causes.End bits)) (λ others facts. tested (is_distinct (0 ∷ 2 ^ bits ∷ others)) causes.List (λ apart. done (append-nil (flat_map (in_bits bits) others), refl)))))

classes_kept : Kept partition_classes_at (λ classes. in_bits 5 (length classes) ++ flat_map (in_bits 4) classes) (λ classes. Unit {0})
unfolding partition_classes_at
classes_kept = kept (bind (number causes.End 5) (λ count small. ends (in_row count (number causes.End 4)) (λ classes facts. (ap (λ n. in_bits 5 n ++ flat_map (in_bits 4) classes) (sym facts.0), tt))))

partitions_kept : (books : ℕ) → Kept (partitions_at books) (λ front. in_bits 5 (length front.0) ++ (flat_map (in_bits 4) front.0 ++ flat_map class_fields front.1)) (λ front. Unit {0})
unfolding partitions_at
partitions_kept books =
    kept (bind classes_kept (λ partitions u. last (λ classes. (partitions, classes)) (in_row (class_count partitions) (class_kept books)) (λ classes facts. (refl, tt))))

pub floor_kept : (books : ℕ) → Kept (floor_at books) floor_fields (λ floor. Unit {0})
unfolding floor_at
floor_kept books =
    kept (bind (partitions_kept books) (λ front u.
    bind (number causes.End 2) (λ multiplier small.
    bind (number causes.End 4) (λ bits few.
    last _ (x_values_kept bits (value_count front.1 front.0)) (λ xs range.
    let tail = in_bits 2 multiplier ++ (in_bits 4 bits ++ flat_map (in_bits bits) (drop 2 xs)) in
    let partitions = flat_map (in_bits 4) front.0 in
    let classes = flat_map class_fields front.1 in
    let e : bits ≡ range_bits xs = sym (ap (λ n. ilog (n - 1)) range ∙ range_is bits few) in (
      ap (λ fields. in_bits 5 (length front.0) ++ fields) (append_assoc partitions classes tail
          ∙ ap (λ fields. partitions ++ (classes ++ (fields ++ (in_bits 4 bits ++ flat_map (in_bits bits) (drop 2 xs))))) (count_is 2 multiplier)
          ∙ ap (λ b. partitions ++ (classes ++ (count_in_bits 2 (multiplier + 1) ++ (in_bits 4 b ++ flat_map (in_bits b) (drop 2 xs))))) e),
      tt,
    ))))))

pub floor_back : (books : ℕ) → Rewrites (floor_at books) floor_fields
floor_back books = kept_back (floor_kept books)

pub floor_fits : (books : ℕ) (floor : FloorSetup) → WasRead (floor_at books) floor → All HasPlace (floor_fields floor)
floor_fits books = kept_fits (floor_kept books)
