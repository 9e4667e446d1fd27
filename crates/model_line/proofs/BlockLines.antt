-- The line from the halves of decoded blocks.
use Rattle.std.proofs.Common.{◌≡◌, ℕ, zero, suc, ◌+◌, ◌-◌, ◌*◌, ◌/◌, ◌<◌, ◌≤◌, List, [], ◌∷◌, ◌++◌, length, map, take, drop, get_or, refl, ap, sym, ◌∙◌, arith, append_assoc, length-append, length-drop, inl, inr}
use Rattle.std.specs.Prelude.{pos, ◌+ℤ◌}
use Rattle.std.specs.List.{range_with_len}
use Rattle.std.proofs.Math.Seq.{drop-nil, take-nil}
use Rattle.std.proofs.Math.ListN.{get_or-map}
use Rattle.std.proofs.lemmas.Bool.{lt-ltb, le-ltb, cases_lt}
use Rattle.std.proofs.lemmas.List.{length-take, length-map, get_or-drop, get_or-take}
use Rattle.std.proofs.lemmas.List.FromFn.{length-map-range_with_len}
use Rattle.model_line.specs.Decode.{Kind, missing, skipped, decoded, LinkEntry}
use Rattle.model_line.specs.Origins.{overlap_len, number_after, number_behind, line_origins}
use Rattle.model_line.specs.Halves.{IsBlock, AreBlocks, AreFilmBlocks}
use Rattle.model_synthesis.specs.Coupling.{channel}
use Rattle.model_synthesis.specs.Overlaps.{value_at, value_behind_zeros, overlap_at}
use Rattle.model_line.specs.Blocks.{Values, len_of, frame_between, frames_between, left_half, right_half, overlap_frame, overlap, IsEven, blocks_of, link_blocks, all_blocks, block_at}
use Rattle.model_line.specs.Laws.{LineByHalves, LineByIndex}
use Rattle.model_line.proofs.Spans.{line_of_listed}

-- ---- blocks by their numbers

-- a list's element where another list stands before it
get_at : {B : Type 0} (before : List B) (b none : B) (after all : List B) (n : ℕ) → n ≡ length before → all ≡ before ++ (b ∷ after) → get_or all n none ≡ b
get_at [] b none after all n n-is all-is = rw (all-is, n-is) refl
get_at (x ∷ before) b none after all n n-is all-is = rw (all-is, n-is) (get_at before b none after (before ++ (b ∷ after)) (length before) refl refl)

number_more : {B : Type 0} (n : ℕ) (kind : Kind B) → number_after n kind ≡ n + length (blocks_of kind)
number_more n (missing kind) = omega arith
number_more n skipped = omega arith
number_more n (decoded b) = omega arith

behind_more : {B : Type 0} (n : ℕ) (es : List (LinkEntry B)) → number_behind n es ≡ n + length (link_blocks es)
unfolding number_behind link_blocks
behind_more n [] = omega arith
behind_more n (e ∷ es) = omega (arith, behind_more (number_after n e.kind) es, number_more n e.kind, length-append (blocks_of e.kind) (link_blocks es))

kind_block : {B : Type 0} (all before after : List B) (none : B) (n : ℕ) (kind : Kind B) → n ≡ length before → all ≡ before ++ (blocks_of kind ++ after) → IsBlock (λ k. get_or all k none) n kind
kind_block all before after none n (missing kind) n-is all-is = tt
kind_block all before after none n skipped n-is all-is = tt
kind_block all before after none n (decoded b) n-is all-is = get_at before b none after all n n-is all-is

regroup : {B : Type 0} (a b c d : List B) → a ++ ((b ++ c) ++ d) ≡ (a ++ b) ++ (c ++ d)
regroup a b c d = simp append_assoc

are_blocks : {B : Type 0} (all before after : List B) (none : B) (n : ℕ) (es : List (LinkEntry B)) → n ≡ length before → all ≡ before ++ (link_blocks es ++ after) → AreBlocks (λ k. get_or all k none) n es
unfolding AreBlocks link_blocks
are_blocks all before after none n [] n-is all-is = tt
are_blocks all before after none n (e ∷ es) n-is all-is =
    let here = blocks_of e.kind in
    let rest = link_blocks es in (
      kind_block all before (rest ++ after) none n e.kind n-is (all-is ∙ ap (λ xs. before ++ xs) (append_assoc here rest after)),
      are_blocks all (before ++ here) after none (number_after n e.kind) es (omega (arith, n-is, number_more n e.kind, length-append before here)) (all-is ∙ regroup before here rest after),
    )

are_all_blocks : {B : Type 0} (all before : List B) (none : B) (n : ℕ) (links : List (List (LinkEntry B))) → n ≡ length before → all ≡ before ++ all_blocks links → AreFilmBlocks (λ k. get_or all k none) n links
unfolding AreFilmBlocks all_blocks
are_all_blocks all before none n [] n-is all-is = tt
are_all_blocks all before none n (es ∷ links) n-is all-is =
    let here = link_blocks es in (
      are_blocks all before (all_blocks links) none n es n-is all-is,
      are_all_blocks all (before ++ here) none (number_behind n es) links (omega (arith, n-is, behind_more n es, length-append before here)) (all-is ∙ sym (append_assoc before here (all_blocks links))),
    )

-- ---- halves of blocks give what whole blocks give

-- a half has half the values
half_right : (block : Values) → IsEven block → 2 * len_of (right_half block) ≡ len_of block
unfolding right_half
half_right block even =
    let h : ℕ = len_of block / 2 in
    let first : get_or (map (drop h) block) 0 [] ≡ drop h (get_or block 0 []) = ap (get_or (map (drop h) block) 0) (sym (drop-nil h)) ∙ get_or-map (drop h) block 0 [] in
    rw first (omega (arith, length-drop h (get_or block 0 []), even))

half_left : (block : Values) → IsEven block → 2 * len_of (left_half block) ≡ len_of block
unfolding left_half
half_left block even =
    let h : ℕ = len_of block / 2 in
    let first : get_or (map (take h) block) 0 [] ≡ take h (get_or block 0 []) = ap (get_or (map (take h) block) 0) (sym (take-nil h)) ∙ get_or-map (take h) block 0 [] in
    rw first (omega (arith, length-take h (get_or block 0 []), even))

value_right : (block : Values) (c j : ℕ) → value_at (channel (right_half block) c) j ≡ value_at (channel block c) (len_of block / 2 + j)
unfolding right_half
value_right block c j =
    let h : ℕ = len_of block / 2 in
    let at : channel (map (drop h) block) c ≡ drop h (channel block c) = ap (get_or (map (drop h) block) c) (sym (drop-nil h)) ∙ get_or-map (drop h) block c [] in
    rw at (get_or-drop h (channel block c) j (pos 0))

value_left : (block : Values) (c j : ℕ) → j < len_of block / 2 → value_at (channel (left_half block) c) j ≡ value_at (channel block c) j
unfolding left_half
value_left block c j lt =
    let h : ℕ = len_of block / 2 in
    let at : channel (map (take h) block) c ≡ take h (channel block c) = ap (get_or (map (take h) block) c) (sym (take-nil h)) ∙ get_or-map (take h) block c [] in
    rw at (get_or-take h (channel block c) j (pos 0) lt)

length_left : (block : Values) → length (left_half block) ≡ length block
unfolding left_half
length_left block = length-map block (take (len_of block / 2))

value_behind_zeros_left : (block : Values) (c j k : ℕ) → (k ≤ j → j - k < len_of block / 2) → value_behind_zeros (channel (left_half block) c) j k ≡ value_behind_zeros (channel block c) j k
value_behind_zeros_left block c j k within =
    elim (cases_lt j k) [
      | inl lt ↦ rw (lt-ltb j k lt) refl
      | inr le ↦ rw (le-ltb j k le) (value_left block c (j - k) (within le))
    ]

map_same : {X : Type 0} (f g : ℕ → X) (a n : ℕ) → ((j : ℕ) → a ≤ j → j < a + n → f j ≡ g j) → map f (range_with_len a n) ≡ map g (range_with_len a n)
map_same f g a zero same = refl
map_same f g a (suc n) same = rw (same a (omega arith) (omega arith), map_same f g (a + 1) n (λ j le lt. same j (omega arith) (omega arith))) refl

frame_same : (a b : Values) (j : ℕ) → IsEven a → IsEven b → j < overlap_len (len_of a) (len_of b) → frame_between a b j ≡ overlap_frame (right_half a) (left_half b) j
frame_same a b j a-even b-even lt =
    let channels : length (left_half b) ≡ length b = length_left b in
    rw (half_right a a-even, half_left b b-even, channels)
    (map_same (λ c. value_at (channel a c) (len_of a / 2 + j) +ℤ value_behind_zeros (channel b c) (j + len_of b / 4) (len_of a / 4)) (λ c. overlap_at (len_of a) (len_of b) (channel (right_half a) c) (channel (left_half b) c) j) 0 (length b)
    (λ c le more. rw (value_right a c j, value_behind_zeros_left b c (j + len_of b / 4) (len_of a / 4) (λ before. omega arith)) refl))

overlap_same : (a b : Values) → IsEven a → IsEven b → frames_between a b ≡ overlap (right_half a) (left_half b)
unfolding frames_between overlap
overlap_same a b a-even b-even =
    rw (half_right a a-even, half_left b b-even)
    (map_same (frame_between a b) (overlap_frame (right_half a) (left_half b)) 0 (overlap_len (len_of a) (len_of b)) (λ j le lt. frame_same a b j a-even b-even (omega (arith, lt))))

frames_fit : (a b : Values) → IsEven a → IsEven b → length (frames_between a b) ≡ overlap_len (len_of a) (len_of b)
unfolding frames_between
frames_fit a b a-even b-even = length-map-range_with_len (frame_between a b) 0 (overlap_len (len_of a) (len_of b))

pub line_by_halves : LineByHalves
line_by_halves = λ links. λ xs. λ even. λ lists.
    line_of_listed len_of left_half right_half frames_between overlap IsEven overlap_same frames_fit (block_at links) links (are_all_blocks (all_blocks links) [] [] 0 links refl refl) even xs lists

pub line_by_index : LineByIndex
line_by_index = λ rows index links is sizes even. line_by_halves links index.items even (is.origins ∙ ap line_origins sizes)
