-- Numbers that are written one behind the other.
use Rattle.std.proofs.Common.{◌≡◌, ℕ, zero, suc, ◌+◌, ◌<◌, ◌≤◌, List, [], ◌∷◌, ◌++◌, get_or, take, map, sym, ap, ◌∙◌, arith, append-nil, append_assoc, lit≤}
use Rattle.std.specs.List.{flat_map, range_with_len}
use Rattle.std.proofs.lemmas.List.{flat_map_more, take_more}
use Rattle.std.proofs.lemmas.List.Concat.{flat_map-append}
use Rattle.std.proofs.lemmas.List.FromFn.{map-range_with_len_more}
use Rattle.model_synthesis.specs.Tables.{slope_sizes}
use Rattle.model_synthesis.specs.declared.constants.TheConstants.{CONSTANTS_WORD, DECIBEL_COUNT, COSINE_COUNT}
use Rattle.model_trial.specs.MadeConstants.{number_bytes, made_decibel, made_decibels, made_slope, made_slope_table, made_slopes, made_cosine, made_cosines, made_constants}

-- one number more, of those that a function gives at the numbers from 0 on
pub written_more : (f : ℕ → ℕ) (before after front : List ℕ) (i n : ℕ) → before ≡ front ++ flat_map number_bytes (map f (range_with_len 0 i)) → after ≡ before ++ number_bytes n → n ≡ f i
    → after ≡ front ++ flat_map number_bytes (map f (range_with_len 0 (i + 1)))
written_more f before after front i n so_far now is =
    now ∙ ap (λ (bs : List ℕ). bs ++ number_bytes n) so_far
    ∙ flat_map_more number_bytes front (map f (range_with_len 0 i)) n
    ∙ ap (λ k. front ++ flat_map number_bytes (map f (range_with_len 0 i) ++ k ∷ [])) is
    ∙ ap (λ (ns : List ℕ). front ++ flat_map number_bytes ns) (sym (map-range_with_len_more f 0 i i (omega arith)))

pub all_decibels : (n : ℕ) → n ≡ DECIBEL_COUNT → map made_decibel (range_with_len 0 n) ≡ made_decibels
unfolding made_decibels
all_decibels n is = ap (λ k. map made_decibel (range_with_len 0 k)) is

pub all_cosines : (n : ℕ) → n ≡ COSINE_COUNT → map made_cosine (range_with_len 0 n) ≡ made_cosines
unfolding made_cosines
all_cosines n is = ap (λ k. map made_cosine (range_with_len 0 k)) is

pub all_places : (size n : ℕ) → n ≡ size → map (made_slope size) (range_with_len 0 n) ≡ made_slope_table size
unfolding made_slope_table
all_places size n is = ap (λ k. map (made_slope size) (range_with_len 0 k)) is

-- no slope has more than 4096 places
pub sizes_are_small : (i : ℕ) → get_or slope_sizes i 0 ≤ 4096
sizes_are_small zero = lit≤ tt
sizes_are_small (suc zero) = lit≤ tt
sizes_are_small (suc (suc zero)) = lit≤ tt
sizes_are_small (suc (suc (suc zero))) = lit≤ tt
sizes_are_small (suc (suc (suc (suc zero)))) = lit≤ tt
sizes_are_small (suc (suc (suc (suc (suc zero))))) = lit≤ tt
sizes_are_small (suc (suc (suc (suc (suc (suc zero)))))) = lit≤ tt
sizes_are_small (suc (suc (suc (suc (suc (suc (suc zero))))))) = lit≤ tt
sizes_are_small (suc (suc (suc (suc (suc (suc (suc (suc i)))))))) = lit≤ tt

-- the slope of one size more
pub tables_more : (before after front : List ℕ) (i : ℕ) → i < 8 → before ≡ front ++ flat_map number_bytes (flat_map made_slope_table (take i slope_sizes)) → after ≡ before ++ flat_map number_bytes (made_slope_table (get_or slope_sizes i 0))
    → after ≡ front ++ flat_map number_bytes (flat_map made_slope_table (take (i + 1) slope_sizes))
tables_more before after front i within so_far now =
    let tables = flat_map made_slope_table (take i slope_sizes) in
    let next = made_slope_table (get_or slope_sizes i 0) in
    now ∙ ap (λ (bs : List ℕ). bs ++ flat_map number_bytes next) so_far
    ∙ append_assoc front (flat_map number_bytes tables) (flat_map number_bytes next)
    ∙ ap (λ (bs : List ℕ). front ++ bs) (sym (flat_map-append number_bytes tables next))
    ∙ ap (λ (ns : List ℕ). front ++ flat_map number_bytes (tables ++ ns)) (sym (append-nil next))
    ∙ ap (λ (ns : List ℕ). front ++ flat_map number_bytes ns) (sym (flat_map-append made_slope_table (take i slope_sizes) (get_or slope_sizes i 0 ∷ [])))
    ∙ ap (λ (ns : List ℕ). front ++ flat_map number_bytes (flat_map made_slope_table ns)) (sym (take_more slope_sizes i 0 within))

pub all_slopes : (bytes front : List ℕ) (i : ℕ) → i ≡ 8 → bytes ≡ front ++ flat_map number_bytes (flat_map made_slope_table (take i slope_sizes)) → bytes ≡ front ++ flat_map number_bytes made_slopes
unfolding made_slopes
all_slopes bytes front i is so_far =
    so_far ∙ ap (λ k. front ++ flat_map number_bytes (flat_map made_slope_table (take k slope_sizes))) is

-- the three sections behind the word
pub whole_file : (first second third : List ℕ) → first ≡ CONSTANTS_WORD ++ flat_map number_bytes made_decibels → second ≡ first ++ flat_map number_bytes made_slopes → third ≡ second ++ flat_map number_bytes made_cosines → third ≡ made_constants
unfolding made_constants
whole_file first second third a b c =
    let word = CONSTANTS_WORD in
    let ds = flat_map number_bytes made_decibels in
    let ss = flat_map number_bytes made_slopes in
    let cs = flat_map number_bytes made_cosines in
    c ∙ ap (λ (bs : List ℕ). bs ++ cs) (b ∙ ap (λ (bs : List ℕ). bs ++ ss) a)
    ∙ ap (λ (bs : List ℕ). bs ++ cs) (append_assoc word ds ss)
    ∙ append_assoc word (ds ++ ss) cs
    ∙ ap (λ (bs : List ℕ). word ++ bs) (append_assoc ds ss cs
    ∙ ap (λ (bs : List ℕ). ds ++ bs) (sym (flat_map-append number_bytes made_slopes made_cosines))
    ∙ sym (flat_map-append number_bytes made_decibels (made_slopes ++ made_cosines)))
