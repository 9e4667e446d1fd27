-- The definitions on small values.
use Rattle.std.proofs.Common.{◌≡◌, ℕ, [], ◌∷◌, Some, None, Err, true, false, Bool, pos, negsuc, refl}
use lib.Count.{count_leading_zeros}
use Rattle.model_bits.specs.Bits.{bits_of}
use Rattle.model_fixed.specs.Fixed.{fix}
use Rattle.model_setup.specs.declared.book.Word.{Word}
use Rattle.model_setup.specs.declared.book.Budget.{Budget}
use Rattle.model_setup.specs.declared.book.BookFault.TheVariants as causes
use Rattle.model_setup.specs.declared.book.LookupKind.TheVariants.{Lattice, Tessellation}
use Rattle.model_setup.specs.Codebook.{Lookup}
use Rattle.model_setup.specs.Codewords.{size_of, first_free, words_behind, filled, book_words, begins_with, begins, digits_of, entry_begun, entry_by, entry_at}
use Rattle.model_setup.specs.Vectors.{root_up_to, root_of, value_at, vector_of}
use Rattle.model_setup.specs.BookReading.{front_at, runs_at, ordered_lengths_at, length_list_at, lengths_at, book_at}

abbrev word : ℕ → ℕ → ℕ → Word
word entry len start = record { entry = entry; len = len; start = start }

-- codewords 0, 10 and 11
three : book_words (Some 1 ∷ Some 2 ∷ Some 2 ∷ []) ≡ Some (word 0 1 0 ∷ word 1 2 0x80000000 ∷ word 2 2 0xc0000000 ∷ [])
unfolding size_of first_free words_behind filled book_words
three = refl

-- the last goes into the gap
gap : book_words (Some 2 ∷ None ∷ Some 1 ∷ Some 2 ∷ []) ≡ Some (word 0 2 0 ∷ word 2 1 0x80000000 ∷ word 3 2 0x40000000 ∷ [])
unfolding size_of first_free words_behind filled book_words
gap = refl

not_filled : book_words (Some 1 ∷ Some 2 ∷ []) ≡ None
unfolding size_of first_free words_behind filled book_words
not_filled = refl

no_place : book_words (Some 1 ∷ Some 1 ∷ Some 1 ∷ []) ≡ None
unfolding size_of first_free words_behind filled book_words
no_place = refl

one_long : book_words (Some 2 ∷ []) ≡ None
unfolding size_of first_free words_behind filled book_words
one_long = refl

unused : book_words (None ∷ None ∷ []) ≡ Some []
unfolding size_of first_free words_behind filled book_words
unused = refl

reads : entry_at (Some 1 ∷ Some 2 ∷ Some 2 ∷ []) (true ∷ true ∷ false ∷ []) ≡ Some (2, false ∷ [])
unfolding size_of first_free words_behind filled book_words begins_with begins digits_of entry_begun entry_by entry_at
reads = refl

cut_off : entry_at (Some 1 ∷ Some 2 ∷ Some 2 ∷ []) (true ∷ []) ≡ None
unfolding size_of first_free words_behind filled book_words begins_with begins digits_of entry_begun entry_by entry_at
cut_off = refl

either_bit : entry_at (None ∷ Some 1 ∷ []) (true ∷ false ∷ []) ≡ Some (1, false ∷ [])
unfolding size_of first_free words_behind filled book_words begins_with begins digits_of entry_begun entry_by entry_at
either_bit = refl

none_used : entry_at (None ∷ []) (true ∷ []) ≡ None
unfolding size_of first_free words_behind filled book_words begins_with begins digits_of entry_begun entry_by entry_at
none_used = refl

-- 4 ^ 3 is 64, 5 ^ 3 is 125
root : root_of 124 3 ≡ 4
unfolding root_of root_up_to
root = refl

root_of_none : root_of 0 3 ≡ 0
unfolding root_of root_up_to
root_of_none = refl

root_of_many : root_of 8 65535 ≡ 1
unfolding root_of root_up_to
root_of_many = refl

-- minimum -3/4, delta 1/4 (in units of 2 ^ -16: -49152 and 16384)
lattice : Bool → Lookup
lattice sequence = record { kind = Lattice; minimum = 0xe2400003; delta = 0x62400001; sequence = sequence; multiplicands = 0 ∷ 1 ∷ 5 ∷ [] }

-- entry 7 is 1 * 1 + 2 * 3 + 0 * 9: its digits are 1, 2 and 0
digits : vector_of 3 (lattice false) 7 ≡ negsuc 32767 ∷ pos 32768 ∷ negsuc 49151 ∷ []
unfolding lattice vector_of value_at fix
digits = refl

sequence : vector_of 3 (lattice true) 7 ≡ negsuc 32767 ∷ pos 0 ∷ negsuc 49151 ∷ []
unfolding lattice vector_of value_at fix
sequence = refl

own : vector_of 2 (record { kind = Tessellation; minimum = 0xe2400003; delta = 0x62400001; sequence = false; multiplicands = 9 ∷ 9 ∷ 3 ∷ 4 ∷ [] }) 1 ≡ pos 0 ∷ pos 16384 ∷ []
unfolding vector_of value_at fix
own = refl

budget : Budget
budget = record { entries = 10; multiplicands = 10 }

-- a run past the last entry
run_past : book_at budget (bits_of (0x42 ∷ 0x43 ∷ 0x56 ∷ 0x01 ∷ 0x00 ∷ 0x02 ∷ 0x00 ∷ 0x00 ∷ 0xc1 ∷ [])) ≡ Err causes.Tree
unfolding budget front_at ordered_lengths_at runs_at length_list_at lengths_at book_at count_leading_zeros
run_past = refl

-- a run at length 33
run_long : book_at budget (bits_of (0x42 ∷ 0x43 ∷ 0x56 ∷ 0x01 ∷ 0x00 ∷ 0x02 ∷ 0x00 ∷ 0x00 ∷ 0x3f ∷ 0x00 ∷ [])) ≡ Err causes.Tree
unfolding budget front_at ordered_lengths_at runs_at length_list_at lengths_at book_at count_leading_zeros
run_long = refl

too_many : book_at budget (bits_of (0x42 ∷ 0x43 ∷ 0x56 ∷ 0x01 ∷ 0x00 ∷ 0x0b ∷ 0x00 ∷ 0x00 ∷ [])) ≡ Err causes.Limit
unfolding budget front_at book_at
too_many = refl
