-- What the class word of a vector for a group does to the rows of classes.
use Rattle.std.proofs.Common.{◌≡◌, ℕ, ◌+◌, ◌-◌, ◌*◌, ◌/◌, ◌%◌, ◌^◌, ◌<◌, ◌≤◌, List, [], ◌++◌, Bool, true, false, Some, None, ℤ, length, take, drop, ap, sym, ◌∙◌, arith, length-append, length-take, length-drop}
use Rattle.std.specs.List.{All, range_with_len}
use Rattle.std.specs.Int.{div_ceil}
use Rattle.std.proofs.lemmas.Grind.{div_ceil_times}
use Rattle.std.proofs.lemmas.List.{append-nil, drop_all, take_all}
use Rattle.std.proofs.lemmas.List.Elements.{All-append, All-take, All-drop, All-map}
use Rattle.std.proofs.lemmas.List.FromFn.{length-map-range_with_len}
use Rattle.model_setup.proofs.Sizes.{multiple-lt}
use Rattle.model_setup.specs.Codebook.{Codebook}
use Rattle.model_setup.specs.Codewords.{entry_at}
use Rattle.model_setup.specs.ResidueSetup.{ResidueSetup}
use Rattle.model_setup.specs.ResidueDecoding.{Word, book_of, partition_count, group_size, overwritten, classes_in, with_word, after_step}
use Rattle.residues.specs.Decoders.{IsDecoder, HasRows, state, step_of}
use Rattle.residues.specs.declared.decoder.Decoder.{Decoder}

-- a whole list that was written
pub taken_whole : {X : Type 0} (xs ys : List X) (n : ℕ) → n ≡ length xs → length ys ≡ length xs → take n (ys ++ drop (length ys) xs) ≡ ys
taken_whole xs ys n len same =
    let none : drop (length ys) xs ≡ [] = drop_all (length ys) xs (omega arith) in
    rw (none, append-nil) (take_all n ys (omega arith))

-- the partitions of a group stand in its vector's row
pub row_within : (d : Decoder) (classes : List ℕ) (vector last : ℕ) → HasRows d classes → last ≤ d.partitions → vector < length d.wanted.now → vector * d.partitions + last ≤ length classes
row_within d classes vector last rows few within =
    let row : vector * d.partitions + d.partitions ≤ length d.wanted.now * d.partitions = multiple-lt vector (length d.wanted.now) d.partitions within in
    let count = rows.count in
    omega arith

length-overwritten : (classes new : List ℕ) (from : ℕ) → from + length new ≤ length classes → length (overwritten classes from new) ≡ length classes
length-overwritten classes new from within = simp (length-append, length-take, length-drop) (omega arith)

pub rows_with : (d : Decoder) (classes : List ℕ) (from count word : ℕ) → HasRows d classes → 0 < length d.residue.now.cascades → from + count ≤ length classes
    → HasRows d (overwritten classes from (classes_in (length d.residue.now.cascades) d.classwords count word))
rows_with d classes from count word rows some within =
    let n = length d.residue.now.cascades in
    let digit = λ (k : ℕ). word / n ^ (d.classwords - 1 - k) % n in
    let new = classes_in n d.classwords count word in
    let small : All (λ class. class < n) new = All-map (λ class. class < n) digit (range_with_len 0 count) (λ k e h. omega arith) in
    let many : length new ≡ count = length-map-range_with_len digit 0 count in
    record {
      count = length-overwritten classes new from (omega arith) ∙ rows.count;
      named = All-append (λ class. class < n) (take from classes ++ new) (drop (from + length new) classes)
          (All-append (λ class. class < n) (take from classes) new (All-take (λ class. class < n) from classes rows.named) small)
          (All-drop (λ class. class < n) (from + length new) classes rows.named);
    }

pub word_ends : (books : List Codebook) (residue : ResidueSetup) (size : ℕ) (vectors : List (List ℤ)) (classes : List ℕ) (left : List Bool) (group vector : ℕ) → entry_at (book_of books residue.class_book).lengths left ≡ None
    → state vectors classes [] false ≡ after_step books residue size (state vectors classes left true) (Word group vector)
unfolding after_step
word_ends books residue size vectors classes left group vector e = sym (ap (with_word books residue size group vector (state vectors classes left true)) e)

pub word_read : (d : Decoder) (vectors : List (List ℤ)) (classes new : List ℕ) (left rest : List Bool) (word group vector first count base : ℕ) → IsDecoder d → entry_at (book_of d.books.now d.residue.now.class_book).lengths left ≡ Some (word, rest)
    → new ≡ overwritten classes (vector * d.partitions + first) (classes_in base d.classwords count word) → base ≡ length d.residue.now.cascades → first ≡ group * d.classwords → count ≡ group_size d.partitions d.classwords group
    → state vectors new rest true ≡ step_of d (state vectors classes left true) (Word group vector)
unfolding after_step
word_read d vectors classes new left rest word group vector first count base is read written same at many =
    let books = d.books.now in
    let residue = d.residue.now in
    let classes_by = λ (p c first count base : ℕ). overwritten classes (vector * p + first) (classes_in base c count word) in
    let here : new ≡ classes_by d.partitions d.classwords (group * d.classwords) (group_size d.partitions d.classwords group) (length residue.cascades) =
    written ∙ ap (λ f. classes_by d.partitions d.classwords f count base) at ∙ ap (λ k. classes_by d.partitions d.classwords (group * d.classwords) k base) many
    ∙ ap (classes_by d.partitions d.classwords (group * d.classwords) (group_size d.partitions d.classwords group)) same in
    let there = ap (λ p. classes_by p d.classwords (group * d.classwords) (group_size p d.classwords group) (length residue.cascades)) is.partitions
    ∙ ap (λ c. classes_by (partition_count residue d.size) c (group * c) (group_size (partition_count residue d.size) c group) (length residue.cascades)) is.classwords in
    ap (λ cs. state vectors cs rest true) (here ∙ there)
    ∙ sym (ap (with_word books residue d.size group vector (state vectors classes left true)) read)

-- a group begins before the last partition
pub group_starts : (partitions classwords group : ℕ) → 0 < classwords → group < div_ceil partitions classwords → group * classwords < partitions
group_starts partitions classwords group some lt =
    let last : group * classwords + classwords ≤ div_ceil partitions classwords * classwords = multiple-lt group (div_ceil partitions classwords) classwords lt in
    let few : div_ceil partitions classwords * classwords < partitions + classwords = (div_ceil_times partitions classwords some).1 in
    omega arith
