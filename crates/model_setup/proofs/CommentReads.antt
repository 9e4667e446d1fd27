-- Reading a comment packet goes by its fields.
use Rattle.std.proofs.Common.{◌≡◌, ℕ, zero, suc, ◌+◌, ◌*◌, ◌<◌, ◌≤◌, List, [], ◌∷◌, ◌++◌, length, drop, refl, ap, sym, ◌∙◌, arith, subst, Result, Ok, Err}
use Rattle.std.specs.Prelude.{codes, option_map}
use Rattle.std.proofs.lemmas.List.Elements.{All-nil, All-cons}
use native.Mathlib.Decide.{dec_le}
use Rattle.model_bits.specs.Bits.{bits_of}
use Rattle.model_bits.specs.Reading.{◌>>=◌, ◌>>◌, then_read, or_end, give, relabel, times, without_rest}
use Rattle.model_bits.proofs.ByPlace.{takes_by_place}
use Rattle.model_bits.proofs.Times.{times-first, times-refused}
use Rattle.model_setup.specs.Fields.{Field, IsRight, IsRightNumber, IsWrongNumber, GoesBy, any_number, byte_fields}
use Rattle.model_setup.specs.HeaderPackets.{comment_at, comment_field, comment_start, start_at, text_at, comment_framing_at, counted}
use Rattle.model_setup.specs.Leftmost.{CommentNamesLeftmost, or_zero, count_at, text_end, text_fields, texts_fields, texts_end, comment_framing_field, list_fields, comment_fields}
use Rattle.model_setup.specs.declared.head.CommentCause.{CommentCause}
use Rattle.model_setup.specs.declared.head.CommentCause.TheVariants as comments
use Rattle.model_setup.proofs.ReadsFields.{Outcome, Reads, then_outcome, then_gives, gives, any_reads, last_reads, bytes_read, goes_by, number_there, number_missing, leftmost_here}

module _ (bytes : List ℕ) where
  byte_there : (place : ℕ) → place + 8 ≤ 8 * length bytes → (byte : ℕ) × (comment_field 8 (drop place (bits_of bytes)) ≡ Ok (byte, drop (place + 8) (bits_of bytes)))
  byte_there place there =
      (_, ap (or_end comments.End) (takes_by_place bytes place 8 (omega arith) ∙ ap (option_map (λ v. (v, drop (place + 8) (bits_of bytes)))) (number_there bytes place 8 there)))

  byte_missing : (place : ℕ) → place ≤ 8 * length bytes → 8 * length bytes < place + 8 → comment_field 8 (drop place (bits_of bytes)) ≡ Err comments.End
  byte_missing place within past =
      ap (or_end comments.End) (takes_by_place bytes place 8 within ∙ ap (option_map (λ v. (v, drop (place + 8) (bits_of bytes)))) (number_missing bytes place 8 past))

  bytes_there : (count place : ℕ) → place + 8 * count ≤ 8 * length bytes
      → (text : List ℕ) × (times count (comment_field 8) (drop place (bits_of bytes)) ≡ Ok (text, drop (place + 8 * count) (bits_of bytes)))
  bytes_there zero place there =
      let e : place ≡ place + 8 * 0 = omega arith in
      ([], ap (λ p. Ok ([], drop p (bits_of bytes))) e)
  bytes_there (suc count) place there =
      let first = byte_there place (omega arith) in
      let others = bytes_there count (place + 8) (omega arith) in
      let e : place + 8 + 8 * count ≡ place + 8 * suc count = omega arith in (
        first.0 ∷ others.0,
        times-first (comment_field 8) count (drop place (bits_of bytes)) first.0 (drop (place + 8) (bits_of bytes)) first.1
            ∙ ap (λ r. then_read r (λ xs. give (first.0 ∷ xs))) others.1 ∙ ap (λ p. Ok (first.0 ∷ others.0, drop p (bits_of bytes))) e,
      )

  bytes_missing : (count place : ℕ) → place ≤ 8 * length bytes → 8 * length bytes < place + 8 * count
      → times count (comment_field 8) (drop place (bits_of bytes)) ≡ Err comments.End
  bytes_missing zero place within past = absurd (omega arith)
  bytes_missing (suc count) place within past =
      elim (dec_le (place + 8) (8 * length bytes)) [
        | yes there ↦
            let first = byte_there place there in
            times-first (comment_field 8) count (drop place (bits_of bytes)) first.0 (drop (place + 8) (bits_of bytes)) first.1
            ∙ ap (λ r. then_read r (λ xs. give (first.0 ∷ xs))) (bytes_missing count (place + 8) there (omega arith))
        | no cut ↦ times-refused (comment_field 8) count (drop place (bits_of bytes)) comments.End (byte_missing place within (omega arith))
      ]

  -- a text behind its length is one field of as many bytes
  bytes_reads : (count place : ℕ) → Reads comments.End bytes place (any_number comments.End place (8 * count) ∷ []) (place + 8 * count) (times count (comment_field 8))
  bytes_reads count place within =
      let field = any_number comments.End place (8 * count) in
      elim (dec_le (place + 8 * count) (8 * length bytes)) [
        | yes there ↦
            subst (Outcome comments.End bytes (field ∷ []) (place + 8 * count)) (sym (bytes_there count place there).1)
            (All-cons (IsRight bytes) field [] (subst (IsRightNumber field) (sym (number_there bytes place (8 * count) there)) refl) (All-nil (IsRight bytes)), there, refl)
        | no past ↦
            subst (Outcome comments.End bytes (field ∷ []) (place + 8 * count)) (sym (bytes_missing count place within (omega arith)))
            (leftmost_here comments.End bytes field [] (place + 8 * count) comments.End (subst (λ o. IsWrongNumber comments.End field o comments.End) (sym (number_missing bytes place (8 * count) (omega arith))) refl))
      ]

  text_reads : (place : ℕ) → Reads comments.End bytes place (text_fields bytes place) (text_end bytes place) text_at
  unfolding text_at
  text_reads place =
      any_reads comments.End bytes (any_number comments.End place 32) (any_number comments.End (place + 32) (8 * count_at bytes place) ∷ []) (text_end bytes place) (λ size. times size (comment_field 8)) (λ _. refl) (λ size n.
      subst (λ s. Reads comments.End bytes (place + 32) (any_number comments.End (place + 32) (8 * s) ∷ []) (place + 32 + 8 * s) (times size (comment_field 8))) (sym (ap or_zero n)) (bytes_reads size (place + 32)))

  texts_reads : (count place : ℕ) → Reads comments.End bytes place (texts_fields bytes place count) (texts_end bytes place count) (times count text_at)
  texts_reads zero place within = gives comments.End bytes {A = List (List ℕ)} place [] within
  texts_reads (suc count) place within =
      then_outcome comments.End bytes (text_fields bytes place) (texts_fields bytes (text_end bytes place) count) (text_end bytes place) (texts_end bytes (text_end bytes place) count) (text_at (drop place (bits_of bytes))) _ (text_reads place within)
      (λ text at. then_gives comments.End bytes (texts_fields bytes (text_end bytes place) count) (texts_end bytes (text_end bytes place) count) (times count text_at (drop (text_end bytes place) (bits_of bytes))) (λ texts. text ∷ texts) (texts_reads count (text_end bytes place) at))

  framing_reads : (place : ℕ) → Reads comments.End bytes place (comment_framing_field place ∷ []) (place + 1) comment_framing_at
  unfolding comment_framing_at
  framing_reads place = last_reads comments.End bytes (comment_framing_field place)

  -- so many texts, and the framing bit
  rows_reads : (count place : ℕ) → Reads comments.End bytes place (texts_fields bytes place count ++ comment_framing_field (texts_end bytes place count) ∷ []) (texts_end bytes place count + 1) (times count text_at >>= λ texts. comment_framing_at >> give texts)
  rows_reads count place within =
      let end = texts_end bytes place count in
      then_outcome comments.End bytes (texts_fields bytes place count) (comment_framing_field end ∷ []) end (end + 1) (times count text_at (drop place (bits_of bytes))) _ (texts_reads count place within)
      (λ texts at. then_gives comments.End bytes (comment_framing_field end ∷ []) (end + 1) (comment_framing_at (drop end (bits_of bytes))) (λ _. texts) (framing_reads end at))

  abbrev last : ℕ → ℕ
  last place = texts_end bytes (place + 32) (count_at bytes place) + 1

  list_reads : (place : ℕ) → Reads comments.End bytes place (list_fields bytes place) (last place) (comment_field 32 >>= λ count. times count text_at >>= λ texts. comment_framing_at >> give texts)
  list_reads place =
      let behind : ℕ → List (Field CommentCause) = λ count. texts_fields bytes (place + 32) count ++ comment_framing_field (texts_end bytes (place + 32) count) ∷ [] in
      any_reads comments.End bytes (any_number comments.End place 32) (behind (count_at bytes place)) (last place) (λ count. times count text_at >>= λ texts. comment_framing_at >> give texts) (λ _. refl) (λ count n.
      subst (λ s. Reads comments.End bytes (place + 32) (behind s) (texts_end bytes (place + 32) s + 1) (times count text_at >>= λ texts. comment_framing_at >> give texts)) (sym (ap or_zero n)) (rows_reads count (place + 32)))

  comment_outcome : Outcome comments.End bytes (comment_fields bytes) (last (text_end bytes 56)) (comment_at (bits_of bytes))
  unfolding comment_at
  comment_outcome =
      let kind = byte_fields comments.Kind 0 (3 ∷ codes "vorbis") in
      let list = text_end bytes 56 in
      then_outcome comments.End bytes kind (text_fields bytes 56 ++ list_fields bytes list) 56 (last list) (relabel comment_start (start_at 3) (bits_of bytes)) _ (bytes_read comment_start bytes 0 (3 ∷ codes "vorbis") (omega arith))
      (λ _ at. then_outcome comments.End bytes (text_fields bytes 56) (list_fields bytes list) list (last list) (text_at (drop 56 (bits_of bytes))) _ (text_reads 56 at)
      (λ vendor at2. list_reads list at2))

counts : (bytes : List ℕ) (fields : List (Field CommentCause)) (r : Result (List (List ℕ)) CommentCause) → GoesBy comments.End bytes fields r → GoesBy comments.End bytes fields (counted r)
counts bytes fields (Ok texts) h = h
counts bytes fields (Err cause) h = h

pub comment_names_leftmost : CommentNamesLeftmost
comment_names_leftmost bytes =
    counts bytes (comment_fields bytes) (without_rest (comment_at (bits_of bytes))) (goes_by comments.End bytes (comment_fields bytes) _ (comment_at (bits_of bytes)) (comment_outcome bytes))
