-- The head of a packet is what its bits say at their places.
use Rattle.std.proofs.Common.{◌≡◌, ℕ, ◌+◌, ◌*◌, ◌<◌, ◌≤◌, List, length, drop, Option, Some, None, Result, Bool, true, false, ◌==◌, refl, sym, ap, ◌∙◌, subst, arith, cond}
use Rattle.std.specs.Prelude.{option_map, nat_lt, slice_index_or}
use Rattle.std.proofs.lemmas.Bool.{lt-ltb, ltb-true, eqb-true, eq-eqb}
use native.Mathlib.Decide.{dec_le}
use Rattle.model_bits.specs.Bits.{bits_of, take_bits}
use Rattle.model_bits.specs.Places.{number_at}
use Rattle.model_bits.specs.Reading.{then_read, or_end, give, require, packet_bits, ◌>>=◌, ◌>>◌}
use Rattle.model_bits.proofs.ByPlace.{takes_by_place}
use Rattle.model_setup.proofs.ReadsFields.{number_missing}
use Rattle.model_setup.specs.declared.setup.PacketHead.{PacketHead}
use Rattle.model_setup.specs.declared.setup.PacketHead.TheVariants.{Skip, Bad, Block}
use Rattle.model_setup.specs.AudioHead.{window_flags_at, block_head_at, or_bad, head_by_kind, head_of}
use Rattle.setup_header.specs.HeadLaws.{IsFlag, AreWindowFlags, mode_width, NamesBlock, IsAudio, IsHead, HeadGoesByPlaces}

module _ (flags : List Bool) (bytes : List ℕ) where
  abbrev all : List Bool
  all = bits_of bytes

  abbrev width : ℕ
  width = mode_width flags

  within : (place count n : ℕ) → number_at bytes place count ≡ Some n → place + count ≤ 8 * length bytes
  within place count n e =
      elim (dec_le (place + count) (8 * length bytes)) [
        | yes h ↦ h
        | no past ↦ let missing : number_at bytes place count ≡ None = number_missing bytes place count (omega arith) in absurd (cc)
      ]

  takes : (place count : ℕ) (o : Option ℕ) → place ≤ 8 * length bytes → number_at bytes place count ≡ o
      → take_bits count (drop place all) ≡ option_map (λ n. (n, drop (place + count) all)) o
  takes place count o inside e =
      takes_by_place bytes place count inside ∙ ap (option_map (λ n. (n, drop (place + count) all))) e

  module _ (audio : IsAudio bytes) (mode : ℕ) (named : number_at bytes 1 width ≡ Some mode) where
    -- another block that is named has the same mode
    same_mode : (other : ℕ) (prev next : Bool) → NamesBlock flags bytes other prev next → mode ≡ other
    same_mode other prev next h = let e = h.named in cc

    abbrev after_flags : Bool × Bool → List Bool → Result (PacketHead × List Bool) (Unit {0})
    after_flags f = give (Block mode f.0 f.1)

    abbrev windows_of : ℕ → ℕ → Bool × Bool
    windows_of prev next = (prev == 1, next == 1)

    module _ (there : mode < length flags) (long : slice_index_or flags mode false ≡ true) where
      -- no block is named where a window flag is missing
      no_windows : ((prev next : Bool) → AreWindowFlags true bytes (1 + width) prev next → ⊥) → IsHead flags bytes Bad
      no_windows none = (
        audio,
        λ other prev next h.
            let same = same_mode other prev next h in
            let is_long : slice_index_or flags other false ≡ true = ap (λ m. slice_index_or flags m false) (sym same) ∙ long in
            none prev next (subst (λ b. AreWindowFlags b bytes (1 + width) prev next) is_long h.windows),
      )

      with_next : (prev : ℕ) → number_at bytes (1 + width) 1 ≡ Some prev → (o : Option ℕ) → number_at bytes (1 + width + 1) 1 ≡ o
          → IsHead flags bytes (or_bad (then_read (then_read (or_end tt (option_map (λ n. (n, drop (1 + width + 1 + 1) all)) o)) (λ next. give (windows_of prev next))) after_flags))
      with_next prev first None second =
          no_windows (λ p q h. subst (λ o. IsFlag o q) second h.1)
      with_next prev first (Some next) second = (
        audio,
        record {
          named = named;
          there = there;
          windows = subst (λ b. AreWindowFlags b bytes (1 + width) (prev == 1) (next == 1)) (sym long)
              (subst (λ o. IsFlag o (prev == 1)) (sym first) refl, subst (λ o. IsFlag o (next == 1)) (sym second) refl);
        },
      )

      with_prev : (o : Option ℕ) → number_at bytes (1 + width) 1 ≡ o
          → IsHead flags bytes (or_bad (then_read (then_read (or_end tt (option_map (λ n. (n, drop (1 + width + 1) all)) o)) (λ prev. packet_bits 1 >>= λ next. give (windows_of prev next))) after_flags))
      with_prev None first = no_windows (λ p q h. subst (λ o. IsFlag o p) first h.0)
      with_prev (Some prev) first =
          let inside : 1 + width + 1 ≤ 8 * length bytes = within (1 + width) 1 prev first in
          subst (λ o. IsHead flags bytes (or_bad (then_read (then_read (or_end tt o) (λ next. give (windows_of prev next))) after_flags)))
          (sym (takes (1 + width + 1) 1 (number_at bytes (1 + width + 1) 1) inside refl))
          (with_next prev first (number_at bytes (1 + width + 1) 1) refl)

    with_windows : mode < length flags → (long : Bool) → slice_index_or flags mode false ≡ long
        → IsHead flags bytes (or_bad (then_read (window_flags_at long (drop (1 + width) all)) after_flags))
    unfolding window_flags_at
    with_windows there false short = (
      audio,
      record {
        named = named;
        there = there;
        windows = subst (λ b. AreWindowFlags b bytes (1 + width) false false) (sym short) (refl, refl);
      },
    )
    with_windows there true long =
        let inside : 1 + width ≤ 8 * length bytes = within 1 width mode named in
        subst (λ o. IsHead flags bytes (or_bad (then_read (then_read (or_end tt o) (λ prev. packet_bits 1 >>= λ next. give (windows_of prev next))) after_flags)))
        (sym (takes (1 + width) 1 (number_at bytes (1 + width) 1) inside refl))
        (with_prev there long (number_at bytes (1 + width) 1) refl)

    with_mode : (b : Bool) → nat_lt mode (length flags) ≡ b
        → IsHead flags bytes (or_bad (then_read (require b tt (drop (1 + width) all)) (λ _. window_flags_at (slice_index_or flags mode false) >>= after_flags)))
    with_mode true lt = with_windows (ltb-true mode (length flags) lt) (slice_index_or flags mode false) refl
    with_mode false lt = (
      audio,
      λ other prev next h.
          let same = same_mode other prev next h in
          let below : mode < length flags = subst (λ m. m < length flags) (sym same) h.there in
          let yes : nat_lt mode (length flags) ≡ true = lt-ltb mode (length flags) below in
          cc,
    )

  module _ (audio : IsAudio bytes) where
    with_number : (o : Option ℕ) → number_at bytes 1 width ≡ o
        → IsHead flags bytes (or_bad (then_read (or_end tt (option_map (λ n. (n, drop (1 + width) all)) o)) (λ mode. require (nat_lt mode (length flags)) tt >> (window_flags_at (slice_index_or flags mode false) >>= λ f. give (Block mode f.0 f.1)))))
    with_number None none = (audio, λ other prev next h. let e = h.named in cc)
    with_number (Some mode) named = with_mode audio mode named (nat_lt mode (length flags)) refl

    block : IsHead flags bytes (or_bad (block_head_at flags (drop 1 all)))
    unfolding block_head_at
    block =
        let inside : 1 ≤ 8 * length bytes = within 0 1 0 audio in
        subst (λ o. IsHead flags bytes (or_bad (then_read (or_end tt o) (λ mode. require (nat_lt mode (length flags)) tt >> (window_flags_at (slice_index_or flags mode false) >>= λ f. give (Block mode f.0 f.1))))))
        (sym (takes 1 width (number_at bytes 1 width) inside refl))
        (with_number (number_at bytes 1 width) refl)

  by_kind : (kind : ℕ) (b : Bool) → (kind == 0) ≡ b → number_at bytes 0 1 ≡ Some kind
      → IsHead flags bytes (cond b (or_bad (block_head_at flags (drop 1 all))) Skip)
  by_kind kind true zero_bit e = block (e ∙ ap Some (eqb-true kind 0 zero_bit))
  by_kind kind false other e = λ audio. let same : kind ≡ 0 = cc in let yes : (kind == 0) ≡ true = eq-eqb kind 0 same in cc

  with_kind : (o : Option ℕ) → number_at bytes 0 1 ≡ o
      → IsHead flags bytes (head_by_kind flags (option_map (λ n. (n, drop (0 + 1) all)) o))
  with_kind None none = λ audio. cc
  with_kind (Some kind) e = by_kind kind (kind == 0) refl e

pub head_goes_by_places : HeadGoesByPlaces
unfolding head_of
head_goes_by_places flags bytes =
    subst (λ o. IsHead flags bytes (head_by_kind flags o))
    (sym (takes flags bytes 0 1 (number_at bytes 0 1) (omega arith) refl))
    (with_kind flags bytes (number_at bytes 0 1) refl)
