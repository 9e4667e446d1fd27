-- The definitions of floors on small values.
use Rattle.std.proofs.Common.{◌≡◌, ℕ, List, [], ◌∷◌, ◌++◌, Some, None, Ok, Err, true, false, pos, negsuc, map, refl}
use lib.Count.{count_leading_zeros}
use Rattle.model_bits.specs.Bits.{bits_of_number}
use Rattle.model_setup.specs.declared.floor.Final.{Final}
use Rattle.model_setup.specs.declared.floor.FloorFault.TheVariants as causes
use Rattle.model_setup.specs.Codebook.{Codebook}
use Rattle.model_setup.specs.Codewords.{size_of, first_free, words_behind, filled, book_words, begins_with, begins, digits_of, entry_begun, entry_by, entry_at}
use Rattle.model_setup.specs.FloorSetup.{FloorClass, FloorSetup}
use Rattle.model_setup.specs.FloorReading.{book_number_at, master_at, subclass_book_at, class_at, x_values_at, partition_classes_at, partitions_at, floor_at}
use Rattle.model_setup.specs.FloorPacket.{entry_or_0_at, partition_values_at, y_values_at, nonzero_values_at, floor_values}
use Rattle.model_setup.specs.FloorCurve.{nearest_below, nearest_above, low_neighbour, high_neighbour, render_point, predicted, final_value, values_up_to, is_flagged, finals_up_to, finals_of, curve_at}

-- ---- curves

abbrev plain_class : FloorClass
plain_class = record { dimensions = 1; subclass_bits = 0; master = None; books = Some 0 ∷ [] }

-- three points, at lines 0, 128 and 64
abbrev three : FloorSetup
three = record { partitions = 0 ∷ []; classes = plain_class ∷ []; multiplier = 1; x_values = 0 ∷ 128 ∷ 64 ∷ [] }

-- the last point's final value and flag, and the curve at lines 32 and 96, where the first two points have 100 and 50
abbrev finals : ℕ → List Final
finals y = finals_of three (100 ∷ 50 ∷ y ∷ [])

abbrev ends : List Final → List Final
ends others = record { value = pos 100; flagged = true } ∷ record { value = pos 50; flagged = true } ∷ others

abbrev curves : ℕ → List ℕ
curves y = map (curve_at three (finals y)) (32 ∷ 96 ∷ [])

not_moved : finals 0 ≡ ends (record { value = pos 75; flagged = false } ∷ [])
unfolding nearest_below nearest_above low_neighbour high_neighbour render_point predicted final_value values_up_to is_flagged finals_up_to finals_of
not_moved = refl

not_moved_curve : curves 0 ≡ 88 ∷ 63 ∷ []
unfolding nearest_below nearest_above low_neighbour high_neighbour render_point predicted final_value values_up_to is_flagged finals_up_to finals_of curve_at
not_moved_curve = refl

moved_down : finals 9 ≡ ends (record { value = pos 70; flagged = true } ∷ [])
unfolding nearest_below nearest_above low_neighbour high_neighbour render_point predicted final_value values_up_to is_flagged finals_up_to finals_of
moved_down = refl

moved_down_curve : curves 9 ≡ 85 ∷ 60 ∷ []
unfolding nearest_below nearest_above low_neighbour high_neighbour render_point predicted final_value values_up_to is_flagged finals_up_to finals_of curve_at
moved_down_curve = refl

moved_up : finals 10 ≡ ends (record { value = pos 80; flagged = true } ∷ [])
unfolding nearest_below nearest_above low_neighbour high_neighbour render_point predicted final_value values_up_to is_flagged finals_up_to finals_of
moved_up = refl

moved_up_curve : curves 10 ≡ 90 ∷ 65 ∷ []
unfolding nearest_below nearest_above low_neighbour high_neighbour render_point predicted final_value values_up_to is_flagged finals_up_to finals_of curve_at
moved_up_curve = refl

moved_far : finals 160 ≡ ends (record { value = pos 160; flagged = true } ∷ [])
unfolding nearest_below nearest_above low_neighbour high_neighbour render_point predicted final_value values_up_to is_flagged finals_up_to finals_of
moved_far = refl

moved_far_curve : curves 160 ≡ 130 ∷ 105 ∷ []
unfolding nearest_below nearest_above low_neighbour high_neighbour render_point predicted final_value values_up_to is_flagged finals_up_to finals_of curve_at
moved_far_curve = refl

-- a value past both ends of the range, behind the last point and between two
abbrev steep : List Final
steep = record { value = pos 300; flagged = true } ∷ record { value = negsuc 99; flagged = true } ∷ record { value = pos 0; flagged = false } ∷ []

limits : map (curve_at three steep) (0 ∷ 32 ∷ 127 ∷ 128 ∷ 200 ∷ []) ≡ 255 ∷ 200 ∷ 0 ∷ 0 ∷ 0 ∷ []
unfolding nearest_below nearest_above render_point curve_at
limits = refl

-- the fourth point lies between the third and the second; its neighbours are flagged with it
abbrev four : FloorSetup
four = record { partitions = 0 ∷ 0 ∷ []; classes = plain_class ∷ []; multiplier = 2; x_values = 0 ∷ 128 ∷ 64 ∷ 96 ∷ [] }

flags_neighbours : finals_of four (10 ∷ 100 ∷ 0 ∷ 4 ∷ []) ≡ record { value = pos 10; flagged = true } ∷ record { value = pos 100; flagged = true } ∷ record { value = pos 55; flagged = true } ∷ record { value = pos 79; flagged = true } ∷ []
unfolding nearest_below nearest_above low_neighbour high_neighbour render_point predicted final_value values_up_to is_flagged finals_up_to finals_of
flags_neighbours = refl

-- ---- packets

-- eight entries of three bits: the codeword of an entry is its number, the highest bit first
abbrev eight : Codebook
eight = record { dimensions = 1; lengths = Some 3 ∷ Some 3 ∷ Some 3 ∷ Some 3 ∷ Some 3 ∷ Some 3 ∷ Some 3 ∷ Some 3 ∷ []; lookup = None }

-- nonzero, then 100 and 50 of eight bits each, then entry 4
reads_values : floor_values (eight ∷ []) three (true ∷ bits_of_number 8 100 ++ bits_of_number 8 50 ++ (true ∷ false ∷ false ∷ true ∷ [])) ≡ (Some (100 ∷ 50 ∷ 4 ∷ []), true ∷ [])
unfolding size_of first_free words_behind filled book_words begins_with begins digits_of entry_begun entry_by entry_at count_leading_zeros entry_or_0_at partition_values_at y_values_at nonzero_values_at floor_values
reads_values = refl

zero_bit : floor_values (eight ∷ []) three (false ∷ true ∷ true ∷ []) ≡ (None, true ∷ true ∷ [])
unfolding nonzero_values_at floor_values
zero_bit = refl

-- the packet ends in the second value, or in the last
ends_in_second : floor_values (eight ∷ []) three (true ∷ bits_of_number 8 100 ++ bits_of_number 7 50) ≡ (None, [])
unfolding count_leading_zeros y_values_at nonzero_values_at floor_values
ends_in_second = refl

ends_in_last : floor_values (eight ∷ []) three (true ∷ bits_of_number 8 100 ++ bits_of_number 8 50 ++ (true ∷ true ∷ [])) ≡ (None, [])
unfolding size_of first_free words_behind filled book_words begins_with begins digits_of entry_begun entry_by entry_at count_leading_zeros entry_or_0_at partition_values_at y_values_at nonzero_values_at floor_values
ends_in_last = refl

-- a class of two values and two subclasses, of which the first has no book
abbrev split_class : FloorClass
split_class = record { dimensions = 2; subclass_bits = 1; master = Some 0; books = None ∷ Some 0 ∷ [] }

-- class word 2: its lowest digit is 0, the next is 1; the second value is entry 5
splits : partition_values_at (eight ∷ []) split_class (false ∷ true ∷ false ∷ true ∷ false ∷ true ∷ []) ≡ Ok (0 ∷ 5 ∷ [], [])
unfolding size_of first_free words_behind filled book_words begins_with begins digits_of entry_begun entry_by entry_at entry_or_0_at partition_values_at
splits = refl

-- ---- setups

-- one partition of class 0, of one value, whose book is book 0; multiplier 1, range of 7 bits, line 64
reads_floor : floor_at 1 (bits_of_number 5 1 ++ bits_of_number 4 0 ++ bits_of_number 3 0 ++ bits_of_number 2 0 ++ bits_of_number 8 1 ++ bits_of_number 2 0 ++ bits_of_number 4 7 ++ bits_of_number 7 64) ≡ Ok (three, [])
unfolding book_number_at master_at subclass_book_at class_at x_values_at partition_classes_at partitions_at floor_at
reads_floor = refl

-- no partitions, no classes: two points alone
reads_flat : floor_at 0 (bits_of_number 5 0 ++ bits_of_number 2 0 ++ bits_of_number 4 5) ≡ Ok (record { partitions = []; classes = []; multiplier = 1; x_values = 0 ∷ 32 ∷ [] }, [])
unfolding x_values_at partition_classes_at partitions_at floor_at
reads_flat = refl

-- book 1 where there is one book, and a second point at line 0
no_such_book : floor_at 1 (bits_of_number 5 1 ++ bits_of_number 4 0 ++ bits_of_number 3 0 ++ bits_of_number 2 0 ++ bits_of_number 8 2) ≡ Err causes.Book
unfolding book_number_at master_at subclass_book_at class_at partition_classes_at partitions_at floor_at
no_such_book = refl

two_at_one_line : floor_at 1 (bits_of_number 5 1 ++ bits_of_number 4 0 ++ bits_of_number 3 0 ++ bits_of_number 2 0 ++ bits_of_number 8 1 ++ bits_of_number 2 0 ++ bits_of_number 4 7 ++ bits_of_number 7 0) ≡ Err causes.List
unfolding book_number_at master_at subclass_book_at class_at x_values_at partition_classes_at partitions_at floor_at
two_at_one_line = refl
