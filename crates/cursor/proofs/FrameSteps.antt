-- How the values of frames are written.
use Rattle.std.proofs.Common.{◌≡◌, ℕ, ◌+◌, ◌-◌, ◌*◌, ◌≤◌, ◌<◌, ℤ, List, [], ◌∷◌, ◌++◌, length, map, drop, get_or, ap, sym, ◌∙◌, arith, append_assoc, append-nil, length-drop}
use Rattle.std.specs.List.{range_with_len}
use Rattle.std.proofs.lemmas.List.{drop_all}
use Rattle.std.proofs.lemmas.List.Concat.{flat_map-append}
use Rattle.std.proofs.lemmas.List.FromFn.{map-range_with_len_more}
use Rattle.model_line.specs.Blocks.{Values, Frame}
use Rattle.model_cursor.specs.FrameLists.{values_of}
use Rattle.cursor.specs.declared.portions.Portion.{Portion}
use Rattle.cursor.specs.Portions.{portion_frames, frames_from, FitsHalves, FitHalves}
use Rattle.cursor.proofs.PortionSteps.{front}

-- ---- the loops

pub channel_step : (f : ℕ → ℤ) (c : ℕ) (old now more : List ℤ) (v : ℤ) → now ≡ old ++ map f (range_with_len 0 c) → more ≡ now ++ v ∷ [] → v ≡ f c → more ≡ old ++ map f (range_with_len 0 (c + 1))
channel_step f c old now more v now-is more-is v-is = rw (more-is, now-is, v-is, map-range_with_len_more f 0 c c (omega arith)) (append_assoc old (map f (range_with_len 0 c)) (f c ∷ []))

pub number_step : (f : ℕ → Frame) (from number : ℕ) (old now more : List ℤ) → from ≤ number → now ≡ old ++ values_of (map f (range_with_len from (number - from))) → more ≡ now ++ f number → more ≡ old ++ values_of (map f (range_with_len from (number + 1 - from)))
number_step f from number old now more le now-is more-is =
    let e : number + 1 - from ≡ number - from + 1 = omega arith in
    rw (more-is, now-is, e, map-range_with_len_more f from (number - from) number (omega arith), flat_map-append (λ (x : Frame). x) (map f (range_with_len from (number - from))) (f number ∷ []), append-nil (f number)) (append_assoc old (values_of (map f (range_with_len from (number - from)))) (f number))

-- ---- portions and their halves

pub halves_left : (ps : List Portion) (given : List Values) → 0 < length ps → FitHalves ps given → 2 ≤ length given
unfolding FitHalves
halves_left [] given some fit = absurd (omega arith)
halves_left (p ∷ ps) [] some fit = absurd fit
halves_left (p ∷ ps) (r ∷ []) some fit = absurd fit
halves_left (p ∷ ps) (r ∷ l ∷ given) some fit = omega arith

pub halves_within : (ps : List Portion) (given : List Values) (n : ℕ) → n < length ps → FitHalves (drop n ps) (drop (2 * n) given) → 2 * n + 1 < length given
halves_within ps given n lt fit =
    let two = halves_left (drop n ps) (drop (2 * n) given) (omega (arith, length-drop n ps)) fit in
    omega (arith, length-drop (2 * n) given)

pub pair_at : (given : List Values) (n : ℕ) (r l : Values) → 2 * n + 1 < length given → r ≡ get_or given (2 * n) r → l ≡ get_or given (2 * n + 1) l → drop (2 * n) given ≡ r ∷ l ∷ drop (2 * (n + 1)) given
pair_at given n r l lt r-is l-is =
    let e : 2 * n + 1 + 1 ≡ 2 * (n + 1) = omega arith in
    front given (2 * n) r r (omega arith) (sym r-is) ∙ ap (λ (hs : List Values). r ∷ hs) (front given (2 * n + 1) l l lt (sym l-is) ∙ ap (λ (k : ℕ). l ∷ drop k given) e)

pub fit_step : (ps : List Portion) (given : List Values) (n : ℕ) (d p : Portion) (r l : Values) → n < length ps → get_or ps n d ≡ p → r ≡ get_or given (2 * n) r → l ≡ get_or given (2 * n + 1) l → FitHalves (drop n ps) (drop (2 * n) given)
    → FitsHalves r l p × FitHalves (drop (n + 1) ps) (drop (2 * (n + 1)) given)
unfolding FitHalves
fit_step ps given n d p r l lt p-is r-is l-is fit =
    let within = halves_within ps given n lt fit in
    rw (front ps n d p lt p-is, pair_at given n r l within r-is l-is) at fit

pub values_step : (ps : List Portion) (given : List Values) (n : ℕ) (d p : Portion) (r l : Values) (now more total : List ℤ) → n < length ps → get_or ps n d ≡ p → r ≡ get_or given (2 * n) r → l ≡ get_or given (2 * n + 1) l → FitHalves (drop n ps) (drop (2 * n) given)
    → more ≡ now ++ values_of (portion_frames r l p) → now ++ values_of (frames_from (drop n ps) (drop (2 * n) given)) ≡ total
    → more ++ values_of (frames_from (drop (n + 1) ps) (drop (2 * (n + 1)) given)) ≡ total
unfolding frames_from
values_step ps given n d p r l now more total lt p-is r-is l-is fit more-is h =
    let within = halves_within ps given n lt fit in
    let here = rw (front ps n d p lt p-is, pair_at given n r l within r-is l-is, flat_map-append (λ (x : Frame). x) (portion_frames r l p) (frames_from (drop (n + 1) ps) (drop (2 * (n + 1)) given))) at h in
    rw more-is (append_assoc now (values_of (portion_frames r l p)) (values_of (frames_from (drop (n + 1) ps) (drop (2 * (n + 1)) given))) ∙ here)

pub values_end : (ps : List Portion) (given : List Values) (n : ℕ) (now total : List ℤ) → length ps ≤ n → now ++ values_of (frames_from (drop n ps) (drop (2 * n) given)) ≡ total → now ≡ total
unfolding frames_from
values_end ps given n now total le h = let here = rw (drop_all n ps le) at h in sym (append-nil now) ∙ here
