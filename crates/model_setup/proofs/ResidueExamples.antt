-- The definitions of residues on small values.
use Rattle.std.proofs.Common.{◌≡◌, ℕ, List, [], ◌∷◌, ◌++◌, Option, Some, None, Ok, Err, true, false, Bool, pos, take, replicate, refl}
use Rattle.model_bits.specs.Bits.{bits_of_number}
use Rattle.model_fixed.specs.Fixed.{fix}
use Rattle.model_setup.specs.declared.book.LookupKind.TheVariants.{Lattice}
use Rattle.model_setup.specs.declared.residue.ResidueKind.{ResidueKind}
use Rattle.model_setup.specs.declared.residue.ResidueKind.TheVariants.{Spread, InRow, Interleaved}
use Rattle.model_setup.specs.declared.residue.ResidueFault.TheVariants as causes
use Rattle.model_setup.specs.Codebook.{Codebook}
use Rattle.model_setup.specs.Codewords.{size_of, first_free, words_behind, filled, book_words, entry_by, entry_at, entry_begun, begins, begins_with, digits_of}
use Rattle.model_setup.specs.Vectors.{value_at, vector_of, vector_at}
use Rattle.model_setup.specs.ResidueSetup.{ResidueSetup}
use Rattle.model_setup.specs.ResidueReading.{serving_book_at, pass_flags_at, pass_book_at, cascade_at, cascades_at, residue_at}
use Rattle.model_setup.specs.ResidueDecoding.{Word, Part, group_steps, pass_steps, steps, reading_places, after_reading, after_step, decoded_from, start, residue_vectors}

-- a book of one entry, without values, and one of one entry with three values of a quarter
abbrev class_book : Codebook
class_book = record { dimensions = 1; lengths = Some 1 ∷ []; lookup = None }

abbrev quarters : Codebook
quarters = record { dimensions = 3; lengths = Some 1 ∷ []; lookup = Some (record { kind = Lattice; minimum = 0x62400001; delta = 0; sequence = false; multiplicands = 0 ∷ [] }) }

abbrev books : List Codebook
books = class_book ∷ quarters ∷ []

abbrev first_pass : Option ℕ → List (Option ℕ)
first_pass book = book ∷ None ∷ None ∷ None ∷ None ∷ None ∷ None ∷ None ∷ []

abbrev small : ResidueKind → ResidueSetup
small kind = record { kind = kind; begin = 0; end = 4; partition_size = 2; class_book = 0; cascades = first_pass (Some 1) ∷ [] }

-- two partitions of one class: in the first pass each reads its class and its values, then no pass has a book
lists_steps : take 5 (steps 2 1 (true ∷ [])) ≡ Word 0 0 ∷ Part 0 0 0 ∷ Word 1 0 ∷ Part 0 1 0 ∷ Part 1 0 0 ∷ []
unfolding steps pass_steps group_steps
lists_steps = refl

-- three partitions in groups of two, for the first and the third vector
lists_groups : pass_steps 3 2 (true ∷ false ∷ true ∷ []) 0 ≡ Word 0 0 ∷ Word 0 2 ∷ Part 0 0 0 ∷ Part 0 0 2 ∷ Part 0 1 0 ∷ Part 0 1 2 ∷ Word 1 0 ∷ Word 1 2 ∷ Part 0 2 0 ∷ Part 0 2 2 ∷ []
unfolding pass_steps group_steps
lists_groups = refl

-- the third value of each vector is past its partition
in_row : residue_vectors books (small InRow) 4 (true ∷ []) (false ∷ true ∷ false ∷ true ∷ []) ≡ ((pos 16384 ∷ pos 16384 ∷ pos 16384 ∷ pos 16384 ∷ []) ∷ [], [])
unfolding size_of first_free words_behind filled book_words entry_by entry_at fix value_at vector_of vector_at group_steps pass_steps steps reading_places after_reading after_step decoded_from residue_vectors
in_row = refl

-- the packet ends before the second partition's values
cut_off : residue_vectors books (small InRow) 4 (true ∷ []) (false ∷ true ∷ false ∷ []) ≡ ((pos 16384 ∷ pos 16384 ∷ pos 0 ∷ pos 0 ∷ []) ∷ [], [])
unfolding size_of first_free words_behind filled book_words entry_by entry_at fix value_at vector_of vector_at group_steps pass_steps steps reading_places after_reading after_step decoded_from residue_vectors
cut_off = refl

interleaved : residue_vectors books (small Interleaved) 2 (true ∷ false ∷ []) (false ∷ true ∷ false ∷ []) ≡ ((pos 16384 ∷ pos 0 ∷ []) ∷ (pos 16384 ∷ pos 0 ∷ []) ∷ [], [])
unfolding size_of first_free words_behind filled book_words entry_by entry_at fix value_at vector_of vector_at group_steps pass_steps steps reading_places after_reading after_step decoded_from residue_vectors
interleaved = refl

-- interleaved vectors of which none is wanted, and a vector alone that isn't wanted
not_wanted : residue_vectors books (small Interleaved) 2 (false ∷ false ∷ []) (false ∷ true ∷ []) ≡ ((pos 0 ∷ pos 0 ∷ []) ∷ (pos 0 ∷ pos 0 ∷ []) ∷ [], false ∷ true ∷ [])
unfolding group_steps pass_steps steps decoded_from residue_vectors
not_wanted = refl

-- three values don't fit into a partition of two at equal steps, so only the classes are read
spread : residue_vectors books (small Spread) 4 (true ∷ []) (false ∷ true ∷ false ∷ true ∷ []) ≡ ((pos 0 ∷ pos 0 ∷ pos 0 ∷ pos 0 ∷ []) ∷ [], false ∷ true ∷ [])
unfolding size_of first_free words_behind filled book_words entry_by entry_at group_steps pass_steps steps reading_places after_reading after_step decoded_from residue_vectors
spread = refl

spreads : reading_places Spread 10 7 3 ≡ (10 ∷ 12 ∷ 14 ∷ []) ∷ (11 ∷ 13 ∷ 15 ∷ []) ∷ []
unfolding reading_places
spreads = refl

rows : reading_places InRow 10 7 3 ≡ (10 ∷ 11 ∷ 12 ∷ []) ∷ (13 ∷ 14 ∷ 15 ∷ []) ∷ (16 ∷ []) ∷ []
unfolding reading_places
rows = refl

-- a class word of four classes, of which two partitions have the first two
abbrev four_named : List Codebook
four_named = record { dimensions = 4; lengths = replicate 16 (Some 4); lookup = None } ∷ []

abbrev two_classes : ResidueSetup
two_classes = record { kind = InRow; begin = 0; end = 4; partition_size = 2; class_book = 0; cascades = first_pass None ∷ first_pass None ∷ [] }

cuts_word : (decoded_from four_named two_classes 4 (true ∷ []) (start two_classes 4 1 (bits_of_number 4 2))).classes ≡ 0 ∷ 1 ∷ []
unfolding size_of first_free words_behind filled book_words entry_by entry_at entry_begun begins begins_with digits_of group_steps pass_steps steps reading_places after_reading after_step decoded_from
cuts_word = refl

-- ---- setups

abbrev front : List Bool
front = bits_of_number 24 0 ++ bits_of_number 24 4 ++ bits_of_number 24 1 ++ bits_of_number 6 0

-- one class with a book in the first pass: low bits 1, no high bits
reads_residue : residue_at 1 books (front ++ bits_of_number 8 0 ++ bits_of_number 3 1 ++ bits_of_number 1 0 ++ bits_of_number 8 1) ≡ Ok (small InRow, [])
unfolding serving_book_at pass_flags_at pass_book_at cascade_at cascades_at residue_at
reads_residue = refl

-- a type above 2, a class book that isn't there, a book without values in a pass
no_kind : residue_at 3 books (true ∷ []) ≡ Err causes.Kind
unfolding residue_at
no_kind = refl

no_class_book : residue_at 1 books (front ++ bits_of_number 8 2) ≡ Err causes.Book
unfolding serving_book_at residue_at
no_class_book = refl

no_values : residue_at 1 books (front ++ bits_of_number 8 0 ++ bits_of_number 3 1 ++ bits_of_number 1 0 ++ bits_of_number 8 0) ≡ Err causes.Book
unfolding serving_book_at pass_flags_at pass_book_at cascade_at cascades_at residue_at
no_values = refl
