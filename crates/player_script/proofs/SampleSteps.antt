-- The digits of samples, one value after the other.
use Rattle.std.proofs.Common.{◌≡◌, ℕ, List, [], ◌∷◌, ◌++◌, ◌/◌, ◌%◌, slice_index, append-nil, refl, ap, ◌∙◌, ℤ}
use Rattle.std.specs.List.{flat_map}
use Rattle.std.proofs.lemmas.List.Concat.{flat_map-append}
use Rattle.hex.specs.Hex.{encode_with, encode_lower, lower_digits}
use Rattle.model_line.specs.Blocks.{Frame}
use Rattle.model_cursor.specs.FrameLists.{values_of}
use Rattle.model_line.specs.FrameBytes.{sample_bytes, frame_bytes}

pub encode-append : (t xs ys : List ℕ) → encode_with t (xs ++ ys) ≡ encode_with t xs ++ encode_with t ys
unfolding encode_with
encode-append t [] ys = refl
encode-append t (b ∷ xs) ys =
    ap (λ (ds : List ℕ). slice_index t (b / 16) ∷ slice_index t (b % 16) ∷ ds) (encode-append t xs ys)

-- the digits of values and of one more
pub digits_push : (values : List ℤ) (value : ℤ) → encode_lower (flat_map sample_bytes (values ++ value ∷ [])) ≡ encode_lower (flat_map sample_bytes values) ++ encode_lower (sample_bytes value)
digits_push values value =
    ap encode_lower (flat_map-append sample_bytes values (value ∷ []))
    ∙ ap (λ (bs : List ℕ). encode_lower (flat_map sample_bytes values ++ bs)) (append-nil (sample_bytes value))
    ∙ encode-append lower_digits (flat_map sample_bytes values) (sample_bytes value)

-- the samples of frames are those of their values
pub by_values : (frames : List Frame) → flat_map sample_bytes (values_of frames) ≡ flat_map frame_bytes frames
unfolding frame_bytes
by_values [] = refl
by_values (frame ∷ frames) =
    flat_map-append sample_bytes frame (values_of frames)
    ∙ ap (λ (bs : List ℕ). flat_map sample_bytes frame ++ bs) (by_values frames)
