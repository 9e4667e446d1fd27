-- Values that no step of a decoding reaches.
use Rattle.std.proofs.Common.{◌≡◌, ◌≢◌, ◌⊎◌, inl, inr, ℕ, zero, suc, ◌+◌, ◌-◌, ◌*◌, ◌/◌, ◌<◌, ◌≤◌, min, List, [], ◌∷◌, ◌++◌, length, map, fold, get_or, set, replicate, Option, Some, None, Bool, true, false, cond, ℤ, pos, ◌+ℤ◌, refl, ap, sym, ◌∙◌, arith, get_or-set_other}
use Rattle.std.specs.Prelude.{slice_index}
use Rattle.std.specs.Int.{div_ceil}
use Rattle.std.specs.List.{AllByRecursion, range_with_len, flat_map, list_any}
use Rattle.std.proofs.Math.Nat.{mul-le-mul_right, div-mul-le_self, div-le_self}
use Rattle.std.proofs.lemmas.Bool.{false≢true}
use Rattle.model_fixed.specs.Fixed.{limited}
use Rattle.model_setup.specs.Codebook.{Codebook}
use Rattle.model_setup.specs.Codewords.{entry_at}
use Rattle.model_setup.specs.Vectors.{vector_at}
use Rattle.model_setup.specs.declared.residue.ResidueKind.{ResidueKind}
use Rattle.model_setup.specs.declared.residue.ResidueKind.TheVariants.{Spread, InRow, Interleaved}
use Rattle.model_setup.specs.ResidueSetup.{ResidueSetup}
use Rattle.model_setup.specs.ResidueDecoding.{Step, Word, Part, each_wanted, words_of_group, group_steps, pass_steps, steps, Decoding, book_of, classwords_of, partition_count, with_word, add_to, add_all, spread_places, row_places, reading_places, with_values, after_reading, with_part, pass_book, after_step, decoded_from, start, group_size, channel_of, outcome, separated, any_wanted, by_kind, residue_vectors}
use Rattle.residues.specs.ResidueLaws.{NothingOutsideTheRange, UnwantedStaysSilent, NoneWantedStaysSilent}

-- ---- lists

-- what each step of a fold keeps holds at its end
fold_keeps : {A B : Type 0} (f : A → B → A) (Q : A → Type 0) (P : B → Type 0) → ((a : A) (x : B) → P x → Q a → Q (f a x)) → (a : A) (xs : List B) → AllByRecursion P xs → Q a → Q (fold f a xs)
fold_keeps f Q P keeps a [] all holds = holds
fold_keeps f Q P keeps a (x ∷ xs) all holds = fold_keeps f Q P keeps (f a x) xs all.1 (keeps a x all.0 holds)

all_of : {B : Type 0} (P : B → Type 0) → ((x : B) → P x) → (xs : List B) → AllByRecursion P xs
all_of P holds [] = tt
all_of P holds (x ∷ xs) = (holds x, all_of P holds xs)

all_joined : {B : Type 0} (P : B → Type 0) (xs ys : List B) → AllByRecursion P xs → AllByRecursion P ys → AllByRecursion P (xs ++ ys)
all_joined P [] ys first second = second
all_joined P (x ∷ xs) ys first second = (first.0, all_joined P xs ys first.1 second)

-- a list that has a part, or an item, for each number of a range
all_parts : {B : Type 0} (P : B → Type 0) (g : ℕ → List B) (a n : ℕ) → ((k : ℕ) → a ≤ k → k < a + n → AllByRecursion P (g k)) → AllByRecursion P (flat_map g (range_with_len a n))
all_parts P g a zero holds = tt
all_parts P g a (suc n) holds =
    all_joined P (g a) (flat_map g (range_with_len (a + 1) n)) (holds a (omega arith) (omega arith)) (all_parts P g (a + 1) n (λ k low high. holds k (omega arith) (omega arith)))

all_items : {B : Type 0} (P : B → Type 0) (f : ℕ → B) (a n : ℕ) → ((k : ℕ) → a ≤ k → k < a + n → P (f k)) → AllByRecursion P (map f (range_with_len a n))
all_items P f a zero holds = tt
all_items P f a (suc n) holds = (holds a (omega arith) (omega arith), all_items P f (a + 1) n (λ k low high. holds k (omega arith) (omega arith)))

-- ---- the steps

-- a group's partitions are some of the residue's
in_group : (first classwords partitions k : ℕ) → first ≤ k → k < first + min classwords (partitions - first) → k < partitions
in_group first classwords partitions k low high = omega arith

-- what holds of each word's step, and of each part's of a wanted vector, holds of each step
module _ (P : Step → Type 0) (wanted : List Bool) where
  all_if : (step : Step) (b : Bool) → (b ≡ true → P step) → AllByRecursion P (cond b (step ∷ []) [])
  all_if step true holds = (holds refl, tt)
  all_if step false holds = tt

  all_wanted : (step : ℕ → Step) → ((vector : ℕ) → get_or wanted vector false ≡ true → P (step vector)) → AllByRecursion P (each_wanted wanted step)
  all_wanted step holds =
      all_parts P (λ vector. cond (get_or wanted vector false) (step vector ∷ []) []) 0 (length wanted) (λ k low high. all_if (step k) (get_or wanted k false) (holds k))

  all_words : ((group vector : ℕ) → P (Word group vector)) → (pass group : ℕ) → AllByRecursion P (words_of_group wanted pass group)
  all_words words zero group = all_wanted (Word group) (λ vector is. words group vector)
  all_words words (suc pass) group = tt

  module _ (partitions classwords : ℕ) (words : (group vector : ℕ) → P (Word group vector)) (parts : (pass partition vector : ℕ) → partition < partitions → get_or wanted vector false ≡ true → P (Part pass partition vector)) where
    all_of_group : (pass group : ℕ) → AllByRecursion P (group_steps partitions classwords wanted pass group)
    unfolding group_steps
    all_of_group pass group =
        let first = group * classwords in
        let many = min classwords (partitions - group * classwords) in
        all_joined P (words_of_group wanted pass group) (flat_map (λ partition. each_wanted wanted (Part pass partition)) (range_with_len first many))
        (all_words words pass group)
        (all_parts P (λ partition. each_wanted wanted (Part pass partition)) first many (λ k low high. all_wanted (Part pass k) (λ vector is. parts pass k vector (in_group first classwords partitions k low high) is)))

    all_of_pass : (pass : ℕ) → AllByRecursion P (pass_steps partitions classwords wanted pass)
    unfolding pass_steps
    all_of_pass pass = all_parts P (group_steps partitions classwords wanted pass) 0 (div_ceil partitions classwords) (λ k low high. all_of_group pass k)

    all_steps : AllByRecursion P (steps partitions classwords wanted)
    unfolding steps
    all_steps = all_parts P (pass_steps partitions classwords wanted) 0 8 (λ k low high. all_of_pass k)

-- ---- one value

-- values that are added at other places
added_elsewhere : (line : List ℤ) (places : List ℕ) (terms : List ℤ) (p : ℕ) → AllByRecursion (λ q. p ≢ q) places → get_or (add_all line places terms) p (pos 0) ≡ get_or line p (pos 0)
added_elsewhere line [] terms p other = refl
added_elsewhere line (q ∷ qs) [] p other = refl
added_elsewhere line (q ∷ qs) (t ∷ ts) p other =
    added_elsewhere (add_to line (q, t)) qs ts p other.1 ∙ get_or-set_other line q p (limited (get_or line q (pos 0) +ℤ t)) (pos 0) other.0

-- a vector that has the same value at a place
set_alike : (vectors : List (List ℤ)) (vector v p : ℕ) (line : List ℤ) → get_or line p (pos 0) ≡ get_or (get_or vectors vector []) p (pos 0) → get_or (get_or (set vectors vector line) v []) p (pos 0) ≡ get_or (get_or vectors v []) p (pos 0)
set_alike [] vector v p line same = refl
set_alike (x ∷ xs) zero zero p line same = same
set_alike (x ∷ xs) zero (suc v) p line same = refl
set_alike (x ∷ xs) (suc vector) zero p line same = refl
set_alike (x ∷ xs) (suc vector) (suc v) p line same = set_alike xs vector v p line same

replicate_same : {A : Type 0} (n k : ℕ) (z : A) → get_or (replicate n z) k z ≡ z
replicate_same zero k z = refl
replicate_same (suc n) zero z = refl
replicate_same (suc n) (suc k) z = replicate_same n k z

starts_silent : (count size v p : ℕ) → get_or (get_or (replicate count (replicate size (pos 0))) v []) p (pos 0) ≡ pos 0
starts_silent zero size v p = refl
starts_silent (suc count) size zero p = replicate_same size p (pos 0)
starts_silent (suc count) size (suc v) p = starts_silent count size v p

-- ---- what a step leaves at a place of a vector

-- a value that is spread stands within its partition
spread_within : (i j size dimensions : ℕ) → i < size / dimensions → j < dimensions → i + j * (size / dimensions) < size
spread_within i j size dimensions reading value =
    let rows : (j + 1) * (size / dimensions) ≤ dimensions * (size / dimensions) = mul-le-mul_right (size / dimensions) (omega arith) in
    let all = div-mul-le_self size dimensions in
    omega arith

module _ (v p : ℕ) where
  abbrev Silent : Decoding → Type 0
  Silent d = get_or (get_or d.vectors v []) p (pos 0) ≡ pos 0

  -- a reading of a vector at places adds nothing there
  abbrev Apart : ℕ → List ℕ → Type 0
  Apart vector places = (v ≢ vector) ⊎ AllByRecursion (λ q. p ≢ q) places

  set_apart : (vectors : List (List ℤ)) (vector : ℕ) (places : List ℕ) (terms : List ℤ) → Apart vector places
      → get_or (get_or (set vectors vector (add_all (get_or vectors vector []) places terms)) v []) p (pos 0) ≡ get_or (get_or vectors v []) p (pos 0)
  set_apart vectors vector places terms (inl ne) =
      ap (λ (line : List ℤ). get_or line p (pos 0)) (get_or-set_other vectors vector v (add_all (get_or vectors vector []) places terms) [] ne)
  set_apart vectors vector places terms (inr other) =
      set_alike vectors vector v p (add_all (get_or vectors vector []) places terms) (added_elsewhere (get_or vectors vector []) places terms p other)

  values_keep : (vector : ℕ) (d : Decoding) (places : List ℕ) (going : Bool) (read : Option (List ℤ × List Bool)) → Apart vector places → Silent d → Silent (cond going (with_values vector d places read) d)
  values_keep vector d places true None apart silent = silent
  values_keep vector d places true (Some read) apart silent = set_apart d.vectors vector places read.0 apart ∙ silent
  values_keep vector d places false read apart silent = silent

  reading_keeps : (book : Codebook) (vector : ℕ) (d : Decoding) (places : List ℕ) → Apart vector places → Silent d → Silent (after_reading book vector d places)
  unfolding after_reading
  reading_keeps book vector d places apart silent = values_keep vector d places d.going (vector_at book d.left) apart silent

  word_keeps : (books : List Codebook) (residue : ResidueSetup) (size group vector : ℕ) (d : Decoding) (going : Bool) (read : Option (ℕ × List Bool)) → Silent d → Silent (cond going (with_word books residue size group vector d read) d)
  word_keeps books residue size group vector d true None silent = silent
  word_keeps books residue size group vector d true (Some read) silent = silent
  word_keeps books residue size group vector d false read silent = silent

  -- no reading of a part from a first place on reaches a place outside it
  abbrev Outside : ℕ → ℕ → Type 0
  Outside first size = (p < first) ⊎ (first + size ≤ p)

  other_place : (first size q : ℕ) → Outside first size → first ≤ q → q < first + size → p ≢ q
  other_place first size q (inl before) low high = omega arith
  other_place first size q (inr after) low high = omega arith

  spread_apart : (vector first size dimensions : ℕ) → Outside first size → AllByRecursion (Apart vector) (spread_places first size dimensions)
  spread_apart vector first size dimensions outside =
      let readings = size / dimensions in
      all_items (Apart vector) (λ i. map (λ j. first + i + j * readings) (range_with_len 0 dimensions)) 0 readings
      (λ i low below. inr (all_items (λ q. p ≢ q) (λ j. first + i + j * readings) 0 dimensions
      (λ j from to. let inside = spread_within i j size dimensions (omega arith) (omega arith) in other_place first size (first + i + j * readings) outside (omega arith) (omega arith))))

  row_apart : (vector first size dimensions : ℕ) → Outside first size → AllByRecursion (Apart vector) (row_places first size dimensions)
  row_apart vector first size dimensions outside =
      all_items (Apart vector) (λ i. map (λ j. first + i * dimensions + j) (range_with_len 0 (min dimensions (size - i * dimensions)))) 0 (div_ceil size dimensions)
      (λ i low below. inr (all_items (λ q. p ≢ q) (λ j. first + i * dimensions + j) 0 (min dimensions (size - i * dimensions))
      (λ j from to. other_place first size (first + i * dimensions + j) outside (omega arith) (omega arith))))

  places_apart : (kind : ResidueKind) (vector first size dimensions : ℕ) → Outside first size → AllByRecursion (Apart vector) (reading_places kind first size dimensions)
  unfolding reading_places
  places_apart Spread vector first size dimensions outside = spread_apart vector first size dimensions outside
  places_apart InRow vector first size dimensions outside = row_apart vector first size dimensions outside
  places_apart Interleaved vector first size dimensions outside = row_apart vector first size dimensions outside

  -- a step that reads another vector, or a part that does not reach the place
  abbrev Spares : ResidueSetup → Step → Type 0
  Spares residue (Word group vector) = Unit {0}
  Spares residue (Part pass partition vector) = (v ≢ vector) ⊎ Outside (residue.begin + partition * residue.partition_size) residue.partition_size

  part_keeps : (books : List Codebook) (residue : ResidueSetup) (partition vector : ℕ) (d : Decoding) (named : Option ℕ)
      → (v ≢ vector) ⊎ Outside (residue.begin + partition * residue.partition_size) residue.partition_size → Silent d → Silent (with_part books residue partition vector d named)
  part_keeps books residue partition vector d None spares silent = silent
  part_keeps books residue partition vector d (Some number) spares silent =
      let book = book_of books number in
      let first = residue.begin + partition * residue.partition_size in
      fold_keeps (after_reading book vector) Silent (Apart vector) (λ now places apart still. reading_keeps book vector now places apart still) d
      (reading_places residue.kind first residue.partition_size book.dimensions)
      (elim spares [
        | inl ne ↦ all_of (Apart vector) (λ places. inl ne) (reading_places residue.kind first residue.partition_size book.dimensions)
        | inr outside ↦ places_apart residue.kind vector first residue.partition_size book.dimensions outside
      ]) silent

  step_keeps : (books : List Codebook) (residue : ResidueSetup) (size : ℕ) (d : Decoding) (step : Step) → Spares residue step → Silent d → Silent (after_step books residue size d step)
  unfolding after_step
  step_keeps books residue size d (Word group vector) spares silent =
      word_keeps books residue size group vector d d.going (entry_at (book_of books residue.class_book).lengths d.left) silent
  step_keeps books residue size d (Part pass partition vector) spares silent =
      part_keeps books residue partition vector d (pass_book residue (slice_index d.classes (vector * partition_count residue size + partition)) pass) spares silent

  -- a place that each step spares is 0 at the end
  spared : (books : List Codebook) (residue : ResidueSetup) (size : ℕ) (wanted : List Bool) (count : ℕ) (left : List Bool)
      → ((pass partition vector : ℕ) → partition < partition_count residue size → get_or wanted vector false ≡ true → Spares residue (Part pass partition vector))
      → Silent (decoded_from books residue size wanted (start residue size count left))
  unfolding decoded_from
  spared books residue size wanted count left parts =
      let partitions = partition_count residue size in
      let classwords = classwords_of books residue in
      fold_keeps (after_step books residue size) Silent (Spares residue) (λ d step spares silent. step_keeps books residue size d step spares silent) (start residue size count left) (steps partitions classwords wanted)
      (all_steps (Spares residue) wanted partitions classwords (λ group vector. tt) parts) (starts_silent count size v p)

-- ---- the laws

-- a partition lies in the range
in_range : (begin end size each partition : ℕ) → partition < (min end size - min begin size) / each → begin + partition * each + each ≤ min end size
in_range begin end size each partition lt =
    let rows : (partition + 1) * each ≤ (min end size - min begin size) / each * each = mul-le-mul_right each (omega arith) in
    let all = div-mul-le_self (min end size - min begin size) each in
    let some = div-le_self (min end size - min begin size) each in
    omega arith

pub nothing_outside : NothingOutsideTheRange
nothing_outside books residue size wanted count left vector place outside =
    spared vector place books residue size wanted count left (λ pass partition other lt is.
    let within = in_range residue.begin residue.end size residue.partition_size partition lt in
    inr (elim outside [ inl before ↦ inl (omega arith) | inr after ↦ inr (omega arith) ]))

pub unwanted_silent : UnwantedStaysSilent
unwanted_silent books residue size wanted count left vector unwanted place =
    spared vector place books residue size wanted count left (λ pass partition other lt is.
    inl (λ same. false≢true (sym unwanted ∙ ap (λ (k : ℕ). get_or wanted k false) same ∙ is)))

-- ---- where nothing is wanted

none_joined : {B : Type 0} (g : ℕ → List B) (a n : ℕ) → ((k : ℕ) → g k ≡ []) → flat_map g (range_with_len a n) ≡ []
none_joined g a zero none = refl
none_joined g a (suc n) none = rw (none a) (none_joined g (a + 1) n none)

-- one that is wanted is among them
not_wanted : (wanted : List Bool) (k : ℕ) → list_any (λ w. w) wanted ≡ false → get_or wanted k false ≡ false
not_wanted [] k none = refl
not_wanted (true ∷ wanted) k none = absurd (false≢true (sym none))
not_wanted (false ∷ wanted) zero none = refl
not_wanted (false ∷ wanted) (suc k) none = not_wanted wanted k none

module _ (wanted : List Bool) (none : list_any (λ w. w) wanted ≡ false) where
  no_step : (step : ℕ → Step) → each_wanted wanted step ≡ []
  no_step step = none_joined (λ vector. cond (get_or wanted vector false) (step vector ∷ []) []) 0 (length wanted) (λ k. ap (λ b. cond b (step k ∷ []) []) (not_wanted wanted k none))

  no_words : (pass group : ℕ) → words_of_group wanted pass group ≡ []
  no_words zero group = no_step (Word group)
  no_words (suc pass) group = refl

  no_group : (partitions classwords pass group : ℕ) → group_steps partitions classwords wanted pass group ≡ []
  unfolding group_steps
  no_group partitions classwords pass group =
      rw (no_words pass group) (none_joined (λ partition. each_wanted wanted (Part pass partition)) (group * classwords) (group_size partitions classwords group) (λ partition. no_step (Part pass partition)))

  no_pass : (partitions classwords pass : ℕ) → pass_steps partitions classwords wanted pass ≡ []
  unfolding pass_steps
  no_pass partitions classwords pass = none_joined (group_steps partitions classwords wanted pass) 0 (div_ceil partitions classwords) (no_group partitions classwords pass)

  no_steps : (partitions classwords : ℕ) → steps partitions classwords wanted ≡ []
  unfolding steps
  no_steps partitions classwords = none_joined (pass_steps partitions classwords wanted) 0 8 (no_pass partitions classwords)

  pub nothing_decoded : (books : List Codebook) (residue : ResidueSetup) (size : ℕ) (d : Decoding) → decoded_from books residue size wanted d ≡ d
  unfolding decoded_from
  nothing_decoded books residue size d = ap (fold (after_step books residue size) d) (no_steps (partition_count residue size) (classwords_of books residue))

all_same : {A : Type 0} (f : ℕ → A) (x : A) (a n : ℕ) → ((k : ℕ) → f k ≡ x) → map f (range_with_len a n) ≡ replicate n x
all_same f x a zero same = refl
all_same f x a (suc n) same = ap (λ y. y ∷ map f (range_with_len (a + 1) n)) (same a) ∙ ap (λ ys. x ∷ ys) (all_same f x (a + 1) n same)

silent_apart : (count size : ℕ) → map (channel_of (replicate (size * count) (pos 0)) count size) (range_with_len 0 count) ≡ replicate count (replicate size (pos 0))
silent_apart count size =
    all_same (channel_of (replicate (size * count) (pos 0)) count size) (replicate size (pos 0)) 0 count
    (λ j. all_same (λ i. get_or (replicate (size * count) (pos 0)) (i * count + j) (pos 0)) (pos 0) 0 size (λ i. replicate_same (size * count) (i * count + j) (pos 0)))

none_by_kind : (kind : ResidueKind) (books : List Codebook) (residue : ResidueSetup) (size : ℕ) (wanted : List Bool) (left : List Bool) → list_any (λ w. w) wanted ≡ false
    → by_kind kind books residue size wanted left ≡ (replicate (length wanted) (replicate size (pos 0)), left)
none_by_kind Spread books residue size wanted left none = ap outcome (nothing_decoded wanted none books residue size (start residue size (length wanted) left))
none_by_kind InRow books residue size wanted left none = ap outcome (nothing_decoded wanted none books residue size (start residue size (length wanted) left))
none_by_kind Interleaved books residue size wanted left none =
    let all = size * length wanted in
    let alone : list_any (λ w. w) (any_wanted wanted) ≡ false = rw none refl in
    ap (separated (length wanted) size) (nothing_decoded (any_wanted wanted) alone books residue all (start residue all 1 left))
    ∙ ap {B = List (List ℤ) × List Bool} (λ vs. (vs, left)) (silent_apart (length wanted) size)

pub none_wanted_silent : NoneWantedStaysSilent
unfolding residue_vectors
none_wanted_silent books residue size wanted left none = none_by_kind residue.kind books residue size wanted left none
