-- The sections of a file's numbers, and the ranges of the tables that they make.
use Rattle.std.proofs.Common.{◌≡◌, ℕ, ◌+◌, ◌-◌, ◌*◌, ◌^◌, ◌<◌, ◌≤◌, ◌∙◌, sym, ap, subst, List, [], ◌∷◌, ◌++◌, length, get_or, take, drop, false, None, inl, inr, arith, length-drop, length-take, refl, lit≤}
use Rattle.std.proofs.lemmas.List.{take_more, get_or-drop, get_or-take, get_or_past}
use Rattle.std.proofs.lemmas.List.FromFn.{length-map-range_with_len, get_or-map-range_with_len}
use Rattle.std.proofs.lemmas.Bool.{cases_lt, lt-ltb, le-ltb, cond-true, cond-false, ltb-false}
use Rattle.model_synthesis.specs.declared.constants.TheConstants.{DECIBEL_COUNT, SLOPE_COUNT, COSINE_COUNT, GREATEST_DECIBEL, SCALE}
use Rattle.model_synthesis.specs.Tables.{AreTables}
use Rattle.model_synthesis.specs.ConstantsFile.{number_at, number_count, numbers_of, greatest_at, is_past, first_past, section, tables_of}
use Rattle.constants_file.proofs.Finding.{none_passes}

-- one number more of a section
pub section_more : (body : List ℕ) (first index : ℕ) → first ≤ index → index < number_count body → section (numbers_of body) first (index + 1 - first) ≡ section (numbers_of body) first (index - first) ++ number_at body index ∷ []
section_more body first index low high =
    let rest : List ℕ = drop first (numbers_of body) in
    let some : index - first < length rest = simp (length-drop, length-map-range_with_len) (omega arith) in
    let place : first + (index - first) ≡ index = omega arith in
    let value : get_or rest (index - first) 0 ≡ number_at body index =
    get_or-drop first (numbers_of body) (index - first) 0
    ∙ get_or-map-range_with_len (number_at body) 0 (number_count body) (first + (index - first)) index 0 (omega arith) (omega arith) in
    let count : index + 1 - first ≡ index - first + 1 = omega arith in
    ap (λ n. take n rest) count ∙ (take_more rest (index - first) 0 some ∙ ap (λ n. take (index - first) rest ++ n ∷ []) value)

-- no number is past its greatest value, where none is found
small_numbers : (body : List ℕ) (i : ℕ) → first_past body ≡ None → get_or (numbers_of body) i 0 ≤ greatest_at i
small_numbers body i none = elim (cases_lt i (number_count body)) [
  | inl low ↦
      let value : get_or (numbers_of body) i 0 ≡ number_at body i = get_or-map-range_with_len (number_at body) 0 (number_count body) i i 0 low (omega arith) in
      let place : 0 + i ≡ i = omega arith in
      let within : is_past body i ≡ false = ap (is_past body) (sym place) ∙ none_passes (is_past body) (number_count body) 0 i none low in
      let small : number_at body i ≤ greatest_at i = ltb-false (greatest_at i) (number_at body i) within in
      subst (λ n. n ≤ greatest_at i) (sym value) small
  | inr high ↦
      let size : length (numbers_of body) ≡ number_count body = length-map-range_with_len (number_at body) 0 (number_count body) in
      let past : get_or (numbers_of body) i 0 ≡ 0 = get_or_past (numbers_of body) i 0 (omega arith) in
      subst (λ n. n ≤ greatest_at i) (sym past) (omega arith)
]

-- a section whose numbers are small, also past its end
small_section : (numbers : List ℕ) (first count bound : ℕ) → ((i : ℕ) → i < count → get_or numbers (first + i) 0 ≤ bound) → (i : ℕ) → get_or (section numbers first count) i 0 ≤ bound
small_section numbers first count bound small i = elim (cases_lt i count) [
  | inl low ↦
      let value : get_or (section numbers first count) i 0 ≡ get_or numbers (first + i) 0 =
      get_or-take count (drop first numbers) i 0 low ∙ get_or-drop first numbers i 0 in
      subst (λ n. n ≤ bound) (sym value) (small i low)
  | inr high ↦
      let size : length (section numbers first count) ≤ i = simp length-take (omega arith) in
      let past : get_or (section numbers first count) i 0 ≡ 0 = get_or_past (section numbers first count) i 0 size in
      subst (λ n. n ≤ bound) (sym past) (omega arith)
]

length-section : (numbers : List ℕ) (first count : ℕ) → first + count ≤ length numbers → length (section numbers first count) ≡ count
length-section numbers first count h = simp (length-take, length-drop) (omega arith)

-- what the three sections of a file without a cause are
module _ (body : List ℕ) (size : length body ≡ 4 * (DECIBEL_COUNT + SLOPE_COUNT + COSINE_COUNT)) (none : first_past body ≡ None) where
  count : length (numbers_of body) ≡ DECIBEL_COUNT + SLOPE_COUNT + COSINE_COUNT
  count = length-map-range_with_len (number_at body) 0 (number_count body) ∙ omega arith

  low : (i : ℕ) → i < DECIBEL_COUNT → get_or (numbers_of body) (0 + i) 0 ≤ GREATEST_DECIBEL
  low i h =
      let within : 0 + i < DECIBEL_COUNT = omega arith in
      subst (λ n. get_or (numbers_of body) (0 + i) 0 ≤ n) (cond-true _ _ _ (lt-ltb (0 + i) DECIBEL_COUNT within)) (small_numbers body (0 + i) none)

  high : (first i : ℕ) → DECIBEL_COUNT ≤ first → get_or (numbers_of body) (first + i) 0 ≤ 2 ^ SCALE
  high first i h =
      let within : DECIBEL_COUNT ≤ first + i = omega arith in
      subst (λ n. get_or (numbers_of body) (first + i) 0 ≤ n) (cond-false _ _ _ (le-ltb (first + i) DECIBEL_COUNT within)) (small_numbers body (first + i) none)

  pub right_tables : AreTables (tables_of (numbers_of body))
  right_tables = record {
    scale = refl;
    decibel_count = length-section (numbers_of body) 0 DECIBEL_COUNT (let n = count in omega arith);
    slope_count = length-section (numbers_of body) DECIBEL_COUNT SLOPE_COUNT (let n = count in omega arith);
    cosine_count = length-section (numbers_of body) (DECIBEL_COUNT + SLOPE_COUNT) COSINE_COUNT (let n = count in omega arith);
    decibels = small_section (numbers_of body) 0 DECIBEL_COUNT GREATEST_DECIBEL low;
    slopes = small_section (numbers_of body) DECIBEL_COUNT SLOPE_COUNT (2 ^ SCALE) (λ i h. high DECIBEL_COUNT i (lit≤ tt));
    cosines = small_section (numbers_of body) (DECIBEL_COUNT + SLOPE_COUNT) COSINE_COUNT (2 ^ SCALE) (λ i h. high (DECIBEL_COUNT + SLOPE_COUNT) i (lit≤ tt));
  }
