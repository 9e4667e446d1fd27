-- Values of frames, as they are read from the channels of halves.
use Rattle.std.proofs.Common.{◌≡◌, ℕ, ◌+◌, ◌-◌, ◌*◌, ◌<◌, inl, inr, ℤ, pos, List, [], ◌∷◌, length, map, get_or, refl, ap, sym, ◌∙◌, arith, to_z, of_z, w64}
use Rattle.std.specs.Prelude.{slice_range}
use Rattle.std.specs.List.{All, range_with_len}
use Rattle.std.proofs.lemmas.Bool.{cases_lt}
use Rattle.std.proofs.lemmas.Int.{to_z-of_z, fits_signed_from_abs}
use Rattle.std.proofs.lemmas.List.{get_or_past, get_or_default}
use Rattle.model_setup.specs.HeaderPackets.{IsBlockSize}
use Rattle.model_synthesis.specs.Coupling.{channel}
use Rattle.model_synthesis.specs.Transform.{IsBlockValue}
use Rattle.model_synthesis.specs.Windows.{AreBlockValues}
use Rattle.model_synthesis.specs.Overlaps.{overlap_len, overlap_at, overlapped, IsFrameValue}
use Rattle.model_line.specs.Blocks.{Values, len_of, IsHalfBlock}
use Rattle.model_line.proofs.Windows.{window}

-- ---- one channel of a half

pub block_values : (xs : List ℤ) → All IsBlockValue xs → AreBlockValues xs
block_values xs small i = elim (cases_lt i (length xs)) [
  | inl lt ↦ small i (pos 0) lt
  | inr le ↦ rw (get_or_past xs i (pos 0) le) (omega arith)
]

-- the values of a channel, as they are read
pub record IsChannel (half : Values) (c : ℕ) (values : List ℤ) : Type 0 where
  pub same : values ≡ channel half c
  pub len : length values ≡ len_of half
  pub size : IsBlockSize (2 * length values)
  pub small : AreBlockValues values

pub channel_read : (channels : ℕ) (half : Values) (c : ℕ) (values : List ℤ) → IsHalfBlock channels half → c < channels → values ≡ get_or half c values → IsChannel half c values
channel_read channels half c values is lt read =
    let count : length half ≡ channels = is.count in
    let within : c < length half = omega arith in
    let len : length (get_or half c values) ≡ len_of half = is.sizes c values within in
    let same : length values ≡ len_of half = ap (λ (xs : List ℤ). length xs) read ∙ len in
    record {
      same = read ∙ get_or_default half c values [] within;
      len = same;
      size = rw same is.size;
      small = block_values values (rw (sym read) at (is.small c values within));
    }

-- the only frame of a window of one
pub value_of_one : (right left : Values) (c number : ℕ) (first second value : List ℤ) → IsChannel right c first → IsChannel left c second → number < overlap_len (2 * len_of right) (2 * len_of left) → value ≡ slice_range (overlapped first second) number (number + 1)
    → get_or value 0 (pos 0) ≡ overlap_at (2 * len_of right) (2 * len_of left) (channel right c) (channel left c) number
unfolding overlapped
value_of_one right left c number first second value r l lt is =
    let f : ℕ → ℤ = overlap_at (2 * length first) (2 * length second) first second in
    let n : ℕ = overlap_len (2 * length first) (2 * length second) in
    let lens : n ≡ overlap_len (2 * len_of right) (2 * len_of left) = rw (r.len, l.len) refl in
    let one : number + 1 - number ≡ 1 = omega arith in
    let cut : value ≡ f number ∷ [] = is ∙ window f n number (number + 1) (omega arith) (omega arith) ∙ ap (λ (k : ℕ). map f (range_with_len number k)) one in
    ap (λ (vs : List ℤ). get_or vs 0 (pos 0)) cut ∙ rw (r.len, l.len, sym r.same, sym l.same) refl

-- a value of a frame, as it is written
pub read_back : (v w : ℤ) → IsFrameValue v → v ≡ w → to_z w64 (of_z w64 v) ≡ w
read_back v w small is = to_z-of_z w64 v (fits_signed_from_abs w64 v (omega arith)) ∙ is
