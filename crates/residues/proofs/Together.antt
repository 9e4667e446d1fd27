-- The lines taken together as one vector: value p of it is value p / count of line p % count.
use Rattle.std.proofs.Common.{◌≡◌, ◌≢◌, ℕ, ◌+◌, ◌*◌, ◌/◌, ◌%◌, ◌<◌, List, [], length, map, get_or, set, replicate, ℤ, pos, inl, inr, refl, ap, sym, ◌∙◌, arith}
use Rattle.std.specs.List.{All, range_with_len}
use Rattle.std.proofs.lemmas.Bool.{cases_eq}
use Rattle.std.proofs.lemmas.List.{same_lists, length-set, length-replicate, get_or-replicate, get_or-set_same, get_or-set_other}
use Rattle.std.proofs.lemmas.List.FromFn.{length-map-range_with_len, get_or-map-range_with_len, fill_by_all}
use Rattle.std.proofs.lemmas.Nat.{mul-add-lt, div-mul-add, mod-mul-add, div_below, mod_below, div-add-mod'}
use Rattle.model_setup.specs.ResidueDecoding.{channel_of}
use Rattle.residues.specs.Layout.{AreZero, together}

pub length_together : (size : ℕ) (lines : List (List ℤ)) → length (together size lines) ≡ size * length lines
unfolding together
length_together size lines =
    length-map-range_with_len (λ p. get_or (get_or lines (p % length lines) []) (p / length lines) (pos 0)) 0 (size * length lines)

pub value_together : (size : ℕ) (lines : List (List ℤ)) (p : ℕ) (d : ℤ) → p < size * length lines
    → get_or (together size lines) p d ≡ get_or (get_or lines (p % length lines) []) (p / length lines) (pos 0)
unfolding together
value_together size lines p d h =
    get_or-map-range_with_len (λ p. get_or (get_or lines (p % length lines) []) (p / length lines) (pos 0)) 0 (size * length lines) p p d h (omega arith)

place_within : (i j size count : ℕ) → i < size → j < count → i * count + j < size * count
place_within i j size count h k = omega (arith, mul-add-lt i count j size h k)

-- value i of line j
pub value_of_line : (size : ℕ) (lines : List (List ℤ)) (i j : ℕ) (d : ℤ) → i < size → j < length lines
    → get_or (together size lines) (i * length lines + j) d ≡ get_or (get_or lines j []) i (pos 0)
value_of_line size lines i j d h k =
    value_together size lines (i * length lines + j) d (place_within i j size (length lines) h k)
    ∙ ap (λ c. get_or (get_or lines c []) ((i * length lines + j) / length lines) (pos 0)) (mod-mul-add i (length lines) j k)
    ∙ ap (λ p. get_or (get_or lines j []) p (pos 0)) (div-mul-add i (length lines) j k)

-- every line is a channel of the whole
pub line_is_channel : (size : ℕ) (lines : List (List ℤ)) (j : ℕ) → All (λ line. length line ≡ size) lines → j < length lines
    → get_or lines j [] ≡ channel_of (together size lines) (length lines) size j
line_is_channel size lines j sizes k =
    fill_by_all (λ i. get_or (together size lines) (i * length lines + j) (pos 0)) (get_or lines j []) size (pos 0) (sizes j [] k) (λ i h. sym (value_of_line size lines i j (pos 0) h k))

pub lines_are_channels : (size : ℕ) (lines : List (List ℤ)) → All (λ line. length line ≡ size) lines
    → map (channel_of (together size lines) (length lines) size) (range_with_len 0 (length lines)) ≡ lines
lines_are_channels size lines sizes =
    sym (fill_by_all (channel_of (together size lines) (length lines) size) lines (length lines) [] refl (λ j k. line_is_channel size lines j sizes k))

-- lines whose values are all 0
pub zero_lines : (size : ℕ) (lines : List (List ℤ)) → All (λ line. length line ≡ size) lines → AreZero lines
    → lines ≡ replicate (length lines) (replicate size (pos 0))
zero_lines size lines sizes zeros =
    same_lists lines (replicate (length lines) (replicate size (pos 0))) (sym (length-replicate (length lines) (replicate size (pos 0))))
    (λ j d k.
    same_lists (get_or lines j d) (replicate size (pos 0)) (sizes j d k ∙ sym (length-replicate size (pos 0)))
    (λ i e h. zeros j d k i e h ∙ sym (get_or-replicate size i (pos 0) e (let s = sizes j d k in omega arith)))
    ∙ sym (get_or-replicate (length lines) j (replicate size (pos 0)) d k))

-- the row of a place is one of the lines
row_below : (size count p : ℕ) → p < size * count → (p % count < count) × (p / count < size)
row_below size count p h = elim (cases_eq count 0) [
  | inl e ↦ absurd (let f : p < size * 0 = rw e at h in omega arith)
  | inr ne ↦
      let some : 0 < count = omega arith in
      (mod_below p count some, div_below p count size some h)
]

pub together_zero : (size : ℕ) (lines : List (List ℤ)) → All (λ line. length line ≡ size) lines → AreZero lines
    → together size lines ≡ replicate (size * length lines) (pos 0)
together_zero size lines sizes zeros =
    let n = size * length lines in
    same_lists (together size lines) (replicate n (pos 0)) (length_together size lines ∙ sym (length-replicate n (pos 0)))
    (λ p d h.
    let l : p < n = let e = length_together size lines in omega arith in
    let row = row_below size (length lines) p l in
    value_together size lines p d l
    ∙ zeros (p % length lines) [] row.0 (p / length lines) (pos 0) (let s = sizes (p % length lines) [] row.0 in omega (arith, row.1))
    ∙ sym (get_or-replicate n p (pos 0) d l))

-- ---- a value of a line is set

module _ (size : ℕ) (lines : List (List ℤ)) (i j : ℕ) (v : ℤ) (sizes : All (λ line. length line ≡ size) lines) (h : i < size) (k : j < length lines) (p : ℕ) (d : ℤ) (l : p < size * length lines) where
  value_at_place : p % length lines ≡ j → p / length lines ≡ i
      → get_or (get_or (set lines j (set (get_or lines j []) i v)) (p % length lines) []) (p / length lines) (pos 0) ≡ get_or (set (together size lines) (i * length lines + j) v) p d
  value_at_place e f =
      let same : i * length lines + j ≡ p = rw (e, f) at (div-add-mod' p (length lines)) in
      let in_line : i < length (get_or lines j []) = let s = sizes j [] k in omega arith in
      let in_all : i * length lines + j < length (together size lines) = let s = length_together size lines in omega arith in
      ap (λ c. get_or (get_or (set lines j (set (get_or lines j []) i v)) c []) (p / length lines) (pos 0)) e
      ∙ ap (λ q. get_or (get_or (set lines j (set (get_or lines j []) i v)) j []) q (pos 0)) f
      ∙ ap (λ xs. get_or xs i (pos 0)) (get_or-set_same lines j (set (get_or lines j []) i v) [] k)
      ∙ get_or-set_same (get_or lines j []) i v (pos 0) in_line
      ∙ sym (get_or-set_same (together size lines) (i * length lines + j) v d in_all)
      ∙ ap (λ q. get_or (set (together size lines) (i * length lines + j) v) q d) same

  -- another place's value stays
  value_elsewhere : p ≢ i * length lines + j
      → get_or (get_or lines (p % length lines) []) (p / length lines) (pos 0) ≡ get_or (set (together size lines) (i * length lines + j) v) p d
  value_elsewhere ne = sym (get_or-set_other (together size lines) (i * length lines + j) p v d ne ∙ value_together size lines p d l)

  value_in_line : p % length lines ≡ j → p / length lines ≢ i
      → get_or (get_or (set lines j (set (get_or lines j []) i v)) (p % length lines) []) (p / length lines) (pos 0) ≡ get_or (set (together size lines) (i * length lines + j) v) p d
  value_in_line e nf =
      ap (λ c. get_or (get_or (set lines j (set (get_or lines j []) i v)) c []) (p / length lines) (pos 0)) e
      ∙ ap (λ xs. get_or xs (p / length lines) (pos 0)) (get_or-set_same lines j (set (get_or lines j []) i v) [] k)
      ∙ get_or-set_other (get_or lines j []) i (p / length lines) v (pos 0) nf
      ∙ ap (λ c. get_or (get_or lines c []) (p / length lines) (pos 0)) (sym e)
      ∙ value_elsewhere (λ s. nf (ap (λ q. q / length lines) s ∙ div-mul-add i (length lines) j k))

  value_in_other : p % length lines ≢ j
      → get_or (get_or (set lines j (set (get_or lines j []) i v)) (p % length lines) []) (p / length lines) (pos 0) ≡ get_or (set (together size lines) (i * length lines + j) v) p d
  value_in_other ne =
      ap (λ xs. get_or xs (p / length lines) (pos 0)) (get_or-set_other lines j (p % length lines) (set (get_or lines j []) i v) [] ne)
      ∙ value_elsewhere (λ s. ne (ap (λ q. q % length lines) s ∙ mod-mul-add i (length lines) j k))

  value_set : get_or (get_or (set lines j (set (get_or lines j []) i v)) (p % length lines) []) (p / length lines) (pos 0) ≡ get_or (set (together size lines) (i * length lines + j) v) p d
  value_set = elim (cases_eq (p % length lines) j) [
    | inl e ↦ elim (cases_eq (p / length lines) i) [
      | inl f ↦ value_at_place e f
      | inr nf ↦ value_in_line e nf
    ]
    | inr ne ↦ value_in_other ne
  ]

pub set_together : (size : ℕ) (lines : List (List ℤ)) (i j : ℕ) (v : ℤ) → All (λ line. length line ≡ size) lines → i < size → j < length lines
    → together size (set lines j (set (get_or lines j []) i v)) ≡ set (together size lines) (i * length lines + j) v
set_together size lines i j v sizes h k =
    let new = set lines j (set (get_or lines j []) i v) in
    let count = length-set lines j (set (get_or lines j []) i v) in
    let old_len = length_together size lines in
    let new_len = length_together size new in
    same_lists (together size new) (set (together size lines) (i * length lines + j) v)
    (new_len ∙ ap (λ n. size * n) count ∙ sym (length-set (together size lines) (i * length lines + j) v ∙ old_len))
    (λ p d l.
    let within : p < size * length new = omega arith in
    let within_old : p < size * length lines = rw count at within in
    value_together size new p d within ∙ ap (λ n. get_or (get_or new (p % n) []) (p / n) (pos 0)) count
    ∙ value_set size lines i j v sizes h k p d within_old)
