-- Texts and the framing bit of a comment packet.
use Rattle.std.proofs.Common.{◌≡◌, ◌≢◌, ℕ, ◌+◌, ◌<◌, ◌≤◌, List, length, get_or, take, drop, refl, ap, ◌∙◌, Option, Some, None, Result, Ok, Err, Bool, ◌==◌, get_or-drop, eq-eqb}
use Rattle.std.proofs.lemmas.Bool.{ne_eqb}
use Rattle.model_bits.specs.Bits.{bits_of, take_bits}
use Rattle.model_bits.specs.Reading.{times, then_read, renamed, give, require, or_end, without_rest}
use Rattle.model_bits.proofs.Times.{times_length}
use Rattle.model_setup.specs.HeaderPackets.{text_at, comment_field, comment_framing_at, comment_at, comment_of, comment_start, counted, start_at}
use Rattle.model_setup.specs.declared.head.CommentCause.{CommentCause}
use Rattle.model_setup.specs.declared.head.CommentCause.TheVariants as causes
use Rattle.head_packets.proofs.ByteFields.{bytes_read, bytes_cut}

module _ (bytes : List ℕ) (size : ℕ) (rest : List ℕ) (sized : comment_field 32 (bits_of bytes) ≡ Ok (size, bits_of rest)) (is_rest : rest ≡ drop 4 bytes) (small : (i : ℕ) → get_or bytes i 0 < 256) where
  small_rest : (i : ℕ) → get_or rest i 0 < 256
  small_rest i =
      let e : get_or rest i 0 ≡ get_or bytes (4 + i) 0 = ap (λ xs. get_or xs i 0) is_rest ∙ get_or-drop 4 bytes i 0 in
      rw e (small (4 + i))

  behind_size : text_at (bits_of bytes) ≡ times size (comment_field 8) (bits_of rest)
  unfolding text_at
  behind_size = ap (λ r. then_read r (λ (n : ℕ). times n (comment_field 8))) sized

  pub text_read : size ≤ length rest → text_at (bits_of bytes) ≡ Ok (take size rest, bits_of (drop size rest))
  text_read long = behind_size ∙ bytes_read causes.End size rest long small_rest

  pub text_cut : length rest < size → text_at (bits_of bytes) ≡ Err causes.End
  text_cut short = behind_size ∙ bytes_cut causes.End size rest short small_rest

-- the framing bit, by what taking it gives
module _ (left : List Bool) (taken : Option (ℕ × List Bool)) (is_taken : take_bits 1 left ≡ taken) where
  pub framing_by : without_rest (comment_framing_at left) ≡ without_rest (then_read (or_end causes.End taken) (λ (flag : ℕ). require (flag == 1) causes.Framing))
  unfolding comment_framing_at
  framing_by = ap (λ t. without_rest (then_read (or_end causes.End t) (λ (flag : ℕ). require (flag == 1) causes.Framing))) is_taken

pub framing_end : (left : List Bool) → take_bits 1 left ≡ None → without_rest (comment_framing_at left) ≡ Err causes.End
framing_end left h = framing_by left None h

pub framing_set : (left after : List Bool) (flag : ℕ) → take_bits 1 left ≡ Some (flag, after) → flag ≡ 1 → without_rest (comment_framing_at left) ≡ Ok 0
framing_set left after flag h is_set = framing_by left (Some (flag, after)) h ∙ ap (λ b. without_rest (require b causes.Framing after)) (eq-eqb flag 1 is_set)

pub framing_clear : (left after : List Bool) (flag : ℕ) → take_bits 1 left ≡ Some (flag, after) → flag ≢ 1 → without_rest (comment_framing_at left) ≡ Err causes.Framing
framing_clear left after flag h is_clear = framing_by left (Some (flag, after)) h ∙ ap (λ b. without_rest (require b causes.Framing after)) (ne_eqb flag 1 is_clear)

framed : (texts : List (List ℕ)) (r : Result (ℕ × List Bool) CommentCause) → without_rest r ≡ Ok 0 → counted (without_rest (then_read r (λ _. give texts))) ≡ Ok (length texts)
framed texts (Ok x) h = refl
framed texts (Err e) h = cc

-- a whole comment packet
pub comment_read : (bytes : List ℕ) (body list rows rest : List Bool) (vendor : List ℕ) (count : ℕ) (texts : List (List ℕ))
    → start_at 3 (bits_of bytes) ≡ Ok (0, body) → text_at body ≡ Ok (vendor, list) → comment_field 32 list ≡ Ok (count, rows)
    → times count text_at rows ≡ Ok (texts, rest) → without_rest (comment_framing_at rest) ≡ Ok 0
    → comment_of bytes ≡ Ok count
unfolding comment_at
comment_read bytes body list rows rest vendor count texts starts vendors counts reads frames =
    ap (λ r. counted (without_rest (then_read (renamed comment_start r) (λ _ l. then_read (text_at l) (λ _ l2. then_read (comment_field 32 l2) (λ n l3. then_read (times n text_at l3) (λ ts l4. then_read (comment_framing_at l4) (λ _. give ts)))))))) starts
    ∙ ap (λ r. counted (without_rest (then_read r (λ _ l2. then_read (comment_field 32 l2) (λ n l3. then_read (times n text_at l3) (λ ts l4. then_read (comment_framing_at l4) (λ _. give ts))))))) vendors
    ∙ ap (λ r. counted (without_rest (then_read r (λ n l3. then_read (times n text_at l3) (λ ts l4. then_read (comment_framing_at l4) (λ _. give ts)))))) counts
    ∙ ap (λ r. counted (without_rest (then_read r (λ ts l4. then_read (comment_framing_at l4) (λ _. give ts))))) reads
    ∙ framed texts (comment_framing_at rest) frames
    ∙ ap Ok (times_length text_at count rows texts rest reads)
