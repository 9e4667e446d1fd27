-- The made curves: how many values they have, and that these are in range.
use Rattle.std.proofs.Common.{◌≡◌, ℕ, ◌+◌, ◌-◌, ◌*◌, ◌/◌, ◌^◌, ◌<◌, ◌≤◌, List, [], ◌∷◌, ◌++◌, length, get_or, take, drop, map, sym, ap, subst, ◌∙◌, Ok, arith, inl, inr, length-append}
use Rattle.std.proofs.Math.Nat.{div-le_of_le-mul}
use Rattle.std.proofs.Math.Pow.{pow_mono}
use Rattle.std.specs.List.{All, range_with_len, flat_map}
use Rattle.std.proofs.lemmas.Bool.{cases_lt, lt-ltb, le-ltb, cond-true, cond-false}
use Rattle.std.proofs.lemmas.List.{take_at, drop_at, drop-drop, take_all, get_or_append_left, get_or-append_right}
use Rattle.std.proofs.lemmas.List.FromFn.{length-map-range_with_len, get_or-map-range_with_len}
use Rattle.std.proofs.lemmas.List.Elements.{All-nil, All-append, All-from_get_or}
use Rattle.model_synthesis.specs.declared.constants.TheConstants.{DECIBEL_COUNT, SLOPE_COUNT, COSINE_COUNT, GREATEST_DECIBEL, SCALE}
use Rattle.model_synthesis.specs.Tables.{slope_sizes}
use Rattle.model_synthesis.specs.ConstantsFile.{greatest_at, section, tables_of}
use Rattle.model_trial.specs.MadeConstants.{made_decibel, made_decibels, made_slope, made_slope_table, made_slopes, made_cosine, made_cosines, made_constants}
use Rattle.model_trial.specs.Laws.{MadeConstantsAreAccepted}
use Rattle.model_trial.proofs.Files.{accepted}

-- values of a function over a range, each of which is small
small_values : (f : ℕ → ℕ) (count bound : ℕ) → ((i : ℕ) → i < count → f i ≤ bound) → All (λ n. n ≤ bound) (map f (range_with_len 0 count))
small_values f count bound small =
    All-from_get_or (λ n. n ≤ bound) (map f (range_with_len 0 count)) 0
    (λ i h. let within : i < count = omega (arith, h, length-map-range_with_len f 0 count) in
    subst (λ n. n ≤ bound) (sym (get_or-map-range_with_len f 0 count i i 0 within (omega arith))) (small i within))

-- joined lists, each of which has small values
small_joined : (f : ℕ → List ℕ) (bound : ℕ) (xs : List ℕ) → ((x : ℕ) → All (λ n. n ≤ bound) (f x)) → All (λ n. n ≤ bound) (flat_map f xs)
small_joined f bound [] small = All-nil (λ n. n ≤ bound)
small_joined f bound (x ∷ xs) small = All-append (λ n. n ≤ bound) (f x) (flat_map f xs) (small x) (small_joined f bound xs small)

-- ---- decibel values

length-decibels : length made_decibels ≡ DECIBEL_COUNT
unfolding made_decibels
length-decibels = length-map-range_with_len made_decibel 0 DECIBEL_COUNT

small_decibel : (i : ℕ) → i < DECIBEL_COUNT → made_decibel i ≤ GREATEST_DECIBEL
unfolding made_decibel
small_decibel i h = pow_mono {i = i / 12 + 9} {j = 30} (omega arith)

small_decibels : All (λ n. n ≤ GREATEST_DECIBEL) made_decibels
unfolding made_decibels
small_decibels = small_values made_decibel DECIBEL_COUNT GREATEST_DECIBEL small_decibel

-- ---- slopes

length-slope_table : (size : ℕ) → length (made_slope_table size) ≡ size
unfolding made_slope_table
length-slope_table size = length-map-range_with_len (made_slope size) 0 size

length-slopes : length made_slopes ≡ SLOPE_COUNT
unfolding made_slopes
length-slopes =
    let t = made_slope_table in
    simp length-append (omega (arith, length-slope_table 32, length-slope_table 64, length-slope_table 128, length-slope_table 256, length-slope_table 512, length-slope_table 1024, length-slope_table 2048, length-slope_table 4096))

pub small_slope : (size place : ℕ) → place < size → made_slope size place ≤ 2 ^ SCALE
unfolding made_slope
small_slope size place h =
    let less : 2 * place + 1 ≤ 2 * size = omega arith in
    div-le_of_le-mul (2 * size) {m = 2 ^ SCALE * (2 * place + 1)} {n = 2 ^ SCALE} (grind arith)

small_slope_table : (size : ℕ) → All (λ n. n ≤ 2 ^ SCALE) (made_slope_table size)
unfolding made_slope_table
small_slope_table size = small_values (made_slope size) size (2 ^ SCALE) (small_slope size)

small_slopes : All (λ n. n ≤ 2 ^ SCALE) made_slopes
unfolding made_slopes
small_slopes = small_joined made_slope_table (2 ^ SCALE) slope_sizes small_slope_table

-- ---- cosines

length-cosines : length made_cosines ≡ COSINE_COUNT
unfolding made_cosines
length-cosines = length-map-range_with_len made_cosine 0 COSINE_COUNT

small_cosine : (step : ℕ) → made_cosine step ≤ 2 ^ SCALE
unfolding made_cosine
small_cosine step = omega arith

small_cosines : All (λ n. n ≤ 2 ^ SCALE) made_cosines
unfolding made_cosines
small_cosines = small_values made_cosine COSINE_COUNT (2 ^ SCALE) (λ i h. small_cosine i)

-- ---- the file

-- three sections, each as long as it is to be, are the tables
module _ (ds ss cs : List ℕ) (d : length ds ≡ DECIBEL_COUNT) (s : length ss ≡ SLOPE_COUNT) (c : length cs ≡ COSINE_COUNT) where
  first : section (ds ++ (ss ++ cs)) 0 DECIBEL_COUNT ≡ ds
  first = take_at ds (ss ++ cs) DECIBEL_COUNT d

  second : section (ds ++ (ss ++ cs)) DECIBEL_COUNT SLOPE_COUNT ≡ ss
  second = ap (take SLOPE_COUNT) (drop_at ds (ss ++ cs) DECIBEL_COUNT d) ∙ take_at ss cs SLOPE_COUNT s

  third : section (ds ++ (ss ++ cs)) (DECIBEL_COUNT + SLOPE_COUNT) COSINE_COUNT ≡ cs
  third =
      ap (take COSINE_COUNT) (sym (drop-drop SLOPE_COUNT DECIBEL_COUNT (ds ++ (ss ++ cs))) ∙ ap (drop SLOPE_COUNT) (drop_at ds (ss ++ cs) DECIBEL_COUNT d) ∙ drop_at ss cs SLOPE_COUNT s)
      ∙ take_all COSINE_COUNT cs (omega arith)

  pub in_sections : tables_of (ds ++ (ss ++ cs)) ≡ record { scale = SCALE; decibels = ds; slopes = ss; cosines = cs }
  in_sections =
      let numbers = ds ++ (ss ++ cs) in
      ap (λ (xs : List ℕ). record { scale = SCALE; decibels = xs; slopes = section numbers DECIBEL_COUNT SLOPE_COUNT; cosines = section numbers (DECIBEL_COUNT + SLOPE_COUNT) COSINE_COUNT }) first
      ∙ ap (λ (xs : List ℕ). record { scale = SCALE; decibels = ds; slopes = xs; cosines = section numbers (DECIBEL_COUNT + SLOPE_COUNT) COSINE_COUNT }) second
      ∙ ap (λ (xs : List ℕ). record { scale = SCALE; decibels = ds; slopes = ss; cosines = xs }) third

  pub whole : length (ds ++ (ss ++ cs)) ≡ DECIBEL_COUNT + SLOPE_COUNT + COSINE_COUNT
  whole = simp length-append (omega arith)

  pub in_range : All (λ n. n ≤ GREATEST_DECIBEL) ds → All (λ n. n ≤ 2 ^ SCALE) (ss ++ cs) → (i : ℕ) → i < length (ds ++ (ss ++ cs)) → get_or (ds ++ (ss ++ cs)) i 0 ≤ greatest_at i
  in_range low high i h = elim (cases_lt i DECIBEL_COUNT) [
    | inl within ↦
        let inside : i < length ds = omega arith in
        let value : get_or (ds ++ (ss ++ cs)) i 0 ≡ get_or ds i 0 = get_or_append_left ds (ss ++ cs) 0 i inside in
        let small : get_or ds i 0 ≤ GREATEST_DECIBEL = low i 0 inside in
        subst (λ n. get_or (ds ++ (ss ++ cs)) i 0 ≤ n) (sym (cond-true _ _ _ (lt-ltb i DECIBEL_COUNT within))) (subst (λ n. n ≤ GREATEST_DECIBEL) (sym value) small)
    | inr past ↦
        let inside : i - DECIBEL_COUNT < length (ss ++ cs) = omega (arith, length-append ds (ss ++ cs)) in
        let value : get_or (ds ++ (ss ++ cs)) i 0 ≡ get_or (ss ++ cs) (i - DECIBEL_COUNT) 0 = get_or-append_right ds (ss ++ cs) DECIBEL_COUNT i 0 d past in
        let small : get_or (ss ++ cs) (i - DECIBEL_COUNT) 0 ≤ 2 ^ SCALE = high (i - DECIBEL_COUNT) 0 inside in
        subst (λ n. get_or (ds ++ (ss ++ cs)) i 0 ≤ n) (sym (cond-false _ _ _ (le-ltb i DECIBEL_COUNT past))) (subst (λ n. n ≤ 2 ^ SCALE) (sym value) small)
  ]

pub made_constants_are_accepted : MadeConstantsAreAccepted
unfolding made_constants
made_constants_are_accepted =
    let ds = made_decibels in
    let ss = made_slopes in
    let cs = made_cosines in
    let size = whole ds ss cs length-decibels length-slopes length-cosines in
    let small = in_range ds ss cs length-decibels length-slopes length-cosines small_decibels (All-append (λ n. n ≤ 2 ^ SCALE) ss cs small_slopes small_cosines) in
    accepted (made_decibels ++ (made_slopes ++ made_cosines)) small size
    ∙ ap (λ t. Ok t) (in_sections ds ss cs length-decibels length-slopes length-cosines)
