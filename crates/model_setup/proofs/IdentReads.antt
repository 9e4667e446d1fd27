-- Reading an identification packet goes by its fields.
use Rattle.std.proofs.Common.{◌≡◌, ℕ, ◌+◌, ◌*◌, ◌/◌, ◌%◌, ◌^◌, ◌≤◌, List, [], ◌∷◌, ◌++◌, length, drop, refl, ap, sym, ◌∙◌, arith, subst, Some, None, Err}
use Rattle.std.specs.Prelude.{codes, option_map, sum_by}
use Rattle.std.specs.List.{range_with_len}
use native.Mathlib.Decide.{dec_le}
use Rattle.model_bits.specs.Bits.{bits_of, take_bits}
use Rattle.model_bits.specs.Places.{packet_bit}
use Rattle.model_bits.specs.Reading.{Reading, ◌>>=◌, ◌>>◌, then_read, require, or_end, give, relabel}
use Rattle.model_bits.proofs.ByPlace.{takes_by_place}
use Rattle.model_setup.specs.Fields.{Field, IsWrongNumber, any_number, byte_fields}
use Rattle.model_setup.specs.HeaderPackets.{ident_at, ident_field, ident_start, start_at, format_at, bitrates_at, blocks_at, ident_framing_at, may_be_blocks}
use Rattle.model_setup.specs.Leftmost.{version_field, channels_field, rate_field, bitrate_fields, blocks_field, ident_framing_field, ident_fields, IdentNamesLeftmost}
use Rattle.model_setup.specs.declared.head.IdentFields.{IdentFields}
use Rattle.model_setup.specs.declared.head.IdentCause.{IdentCause}
use Rattle.model_setup.specs.declared.head.IdentCause.TheVariants as idents
use Rattle.model_setup.proofs.ReadsFields.{Outcome, Reads, then_outcome, gives, field_reads, any_reads, last_reads, bytes_read, goes_by, number_there, number_missing, tested, leftmost_here}

module _ (bytes : List ℕ) where
  abbrev format_fields : List (Field IdentCause)
  format_fields = version_field ∷ channels_field ∷ rate_field ∷ []

  format_reads : Reads idents.End bytes 56 format_fields 128 format_at
  unfolding format_at
  format_reads =
      field_reads idents.End bytes version_field (channels_field ∷ rate_field ∷ []) 128 _ (λ _ _.
      field_reads idents.End bytes channels_field (rate_field ∷ []) 128 _ (λ channels _.
      field_reads idents.End bytes rate_field [] 128 _ (λ rate _. gives idents.End bytes {A = ℕ × ℕ} 128 (channels, rate))))

  bitrates_reads : Reads idents.End bytes 128 bitrate_fields 224 bitrates_at
  unfolding bitrates_at
  bitrates_reads =
      let maximum : Field IdentCause = any_number idents.End 128 32 in
      let nominal : Field IdentCause = any_number idents.End 160 32 in
      let minimum : Field IdentCause = any_number idents.End 192 32 in
      any_reads idents.End bytes maximum (nominal ∷ minimum ∷ []) 224 _ (λ _. refl) (λ _ _.
      any_reads idents.End bytes nominal (minimum ∷ []) 224 _ (λ _. refl) (λ _ _.
      any_reads idents.End bytes minimum [] 224 _ (λ _. refl) (λ _ _. gives idents.End bytes {A = ℕ} 224 0)))

  -- the number of so many bits from a place on
  abbrev sum_at : ℕ → ℕ → ℕ
  sum_at place width = sum_by (λ j. packet_bit bytes (place + j) * 2 ^ j) (range_with_len 0 width)

  low_half : sum_at 224 4 ≡ sum_at 224 8 % 16
  low_half = omega arith

  high_half : sum_at 228 4 ≡ sum_at 224 8 / 16
  high_half = omega arith

  four_bits : (place : ℕ) → place + 4 ≤ 8 * length bytes → take_bits 4 (drop place (bits_of bytes)) ≡ Some (sum_at place 4, drop (place + 4) (bits_of bytes))
  four_bits place there = takes_by_place bytes place 4 (omega arith) ∙ ap (option_map (λ v. (v, drop (place + 4) (bits_of bytes)))) (number_there bytes place 4 there)

  blocks_reads : Reads idents.End bytes 224 (blocks_field ∷ []) 232 blocks_at
  unfolding blocks_at
  blocks_reads within =
      let test : ℕ → ℕ → Reading IdentCause (ℕ × ℕ) = λ short long. require (may_be_blocks short long) idents.Blocks >> give (2 ^ short, 2 ^ long) in
      elim (dec_le 232 (8 * length bytes)) [
        | yes there ↦
            let short = sum_at 224 4 in
            let long = sum_at 228 4 in
            let whole : blocks_at (drop 224 (bits_of bytes)) ≡ test short long (drop 232 (bits_of bytes)) =
            ap (λ o. then_read (or_end idents.End o) (λ s. ident_field 4 >>= test s)) (four_bits 224 (omega arith)) ∙ ap (λ o. then_read (or_end idents.End o) (test short)) (four_bits 228 there) in
            let same : may_be_blocks (sum_at 224 8 % 16) (sum_at 224 8 / 16) ≡ may_be_blocks short long = rw (← low_half, ← high_half) refl in
            subst (Outcome idents.End bytes (blocks_field ∷ []) 232) (sym whole)
            (tested idents.End bytes blocks_field [] 232 (give (2 ^ short, 2 ^ long)) (sum_at 224 8) (may_be_blocks short long) same (number_there bytes 224 8 there) (drop 232 (bits_of bytes)) (gives idents.End bytes {A = ℕ × ℕ} 232 (2 ^ short, 2 ^ long) there))
        | no past ↦
            let none : take_bits 4 (drop 224 (bits_of bytes)) ≡ None = takes_by_place bytes 224 4 within ∙ ap (option_map (λ v. (v, drop 228 (bits_of bytes)))) (number_missing bytes 224 4 (omega arith)) in
            let whole : blocks_at (drop 224 (bits_of bytes)) ≡ Err idents.End = ap (λ o. then_read (or_end idents.End o) (λ s. ident_field 4 >>= test s)) none in
            subst (Outcome idents.End bytes (blocks_field ∷ []) 232) (sym whole)
            (leftmost_here idents.End bytes blocks_field [] 232 idents.End (subst (λ o. IsWrongNumber idents.End blocks_field o idents.End) (sym (number_missing bytes 224 8 (omega arith))) refl))
      ]

  framing_reads : Reads idents.End bytes 232 (ident_framing_field ∷ []) 233 ident_framing_at
  unfolding ident_framing_at
  framing_reads = last_reads idents.End bytes ident_framing_field

  ident_outcome : Outcome idents.End bytes ident_fields 233 (ident_at (bits_of bytes))
  unfolding ident_at
  ident_outcome =
      let kind = byte_fields idents.Kind 0 (1 ∷ codes "vorbis") in
      let tail = blocks_field ∷ ident_framing_field ∷ [] in
      then_outcome idents.End bytes kind (format_fields ++ bitrate_fields ++ tail) 56 233 (relabel ident_start (start_at 1) (bits_of bytes)) _ (bytes_read ident_start bytes 0 (1 ∷ codes "vorbis") (omega arith))
      (λ _ at. then_outcome idents.End bytes format_fields (bitrate_fields ++ tail) 128 233 (format_at (drop 56 (bits_of bytes))) _ (format_reads at)
      (λ format at2. then_outcome idents.End bytes bitrate_fields tail 224 233 (bitrates_at (drop 128 (bits_of bytes))) _ (bitrates_reads at2)
      (λ _ at3. then_outcome idents.End bytes (blocks_field ∷ []) (ident_framing_field ∷ []) 232 233 (blocks_at (drop 224 (bits_of bytes))) _ (blocks_reads at3)
      (λ blocks at4. then_outcome idents.End bytes (ident_framing_field ∷ []) [] 233 233 (ident_framing_at (drop 232 (bits_of bytes))) _ (framing_reads at4)
      (λ _ at5. gives idents.End bytes {A = IdentFields} 233 (record { channels = format.0; rate = format.1; short = blocks.0; long = blocks.1 }) at5)))))

pub ident_names_leftmost : IdentNamesLeftmost
ident_names_leftmost bytes = goes_by idents.End bytes ident_fields 233 (ident_at (bits_of bytes)) (ident_outcome bytes)
