-- Bytes that must be others.
use Rattle.std.proofs.Common.{◌≡◌, ℕ, ◌+◌, ◌<◌, List, [], ◌∷◌, length, drop, refl, ap, ◌∙◌, Ok, Err, Result, Bool, true, false, ◌==◌, ◌≤◌, suc, sym, get_or, add-one, drop-cons}
use Rattle.std.proofs.lemmas.List.{drop_all}
use Rattle.model_setup.specs.declared.head.StartCause.{StartCause}
use Rattle.model_bits.specs.Bits.{bits_of}
use Rattle.model_bits.specs.Reading.{then_read, require, ◌>>◌}
use Rattle.model_bits.proofs.RoundTrip.{bits_written}
use Rattle.model_setup.specs.HeaderPackets.{bytes_at}
use Rattle.model_setup.specs.declared.head.StartCause.TheVariants as starts

pub bytes_at-ended : (wanted : ℕ) (others : List ℕ) → bytes_at (wanted ∷ others) (bits_of []) ≡ Err starts.End
unfolding bytes_at
bytes_at-ended wanted others = refl

-- the next byte, by whether it is the wanted one
bytes_at-next : (wanted : ℕ) (others : List ℕ) (byte : ℕ) (bytes : List ℕ) → byte < 256
    → bytes_at (wanted ∷ others) (bits_of (byte ∷ bytes)) ≡ then_read (require (byte == wanted) starts.Kind (bits_of bytes)) (λ _. bytes_at others)
unfolding bytes_at
bytes_at-next wanted others byte bytes small =
    ap (λ r. then_read r (λ (b : ℕ). require (b == wanted) starts.Kind >> bytes_at others)) (bits_written starts.End 8 byte (bits_of bytes) small)

-- a loop over the wanted bytes: what is left to be read gives the whole reading's answer
module _ (wanted : List ℕ) (i : ℕ) (rest : List ℕ) (whole : Result (ℕ × List Bool) StartCause) (so_far : bytes_at (drop i wanted) (bits_of rest) ≡ whole) where
  pub bytes_end : i < length wanted → rest ≡ [] → whole ≡ Err starts.End
  bytes_end inside none =
      sym so_far ∙ ap (λ ws. bytes_at ws (bits_of rest)) (drop-cons wanted i 0 inside) ∙ ap (λ bs. bytes_at (get_or wanted i 0 ∷ drop (suc i) wanted) (bits_of bs)) none ∙ bytes_at-ended (get_or wanted i 0) (drop (suc i) wanted)

  module _ (byte : ℕ) (others : List ℕ) (inside : i < length wanted) (is_rest : rest ≡ byte ∷ others) (small : byte < 256) where
    next : whole ≡ then_read (require (byte == get_or wanted i 0) starts.Kind (bits_of others)) (λ _. bytes_at (drop (suc i) wanted))
    next =
        sym so_far ∙ ap (λ ws. bytes_at ws (bits_of rest)) (drop-cons wanted i 0 inside) ∙ ap (λ bs. bytes_at (get_or wanted i 0 ∷ drop (suc i) wanted) (bits_of bs)) is_rest ∙ bytes_at-next (get_or wanted i 0) (drop (suc i) wanted) byte others small

    pub bytes_differ : (byte == get_or wanted i 0) ≡ false → whole ≡ Err starts.Kind
    bytes_differ other = next ∙ ap (λ b. then_read (require b starts.Kind (bits_of others)) (λ _. bytes_at (drop (suc i) wanted))) other

    pub bytes_go_on : (byte == get_or wanted i 0) ≡ true → bytes_at (drop (i + 1) wanted) (bits_of others) ≡ whole
    bytes_go_on same = rw add-one (sym (next ∙ ap (λ b. then_read (require b starts.Kind (bits_of others)) (λ _. bytes_at (drop (suc i) wanted))) same))

  pub bytes_done : length wanted ≤ i → whole ≡ Ok (0, bits_of rest)
  unfolding bytes_at
  bytes_done all = sym so_far ∙ ap (λ ws. bytes_at ws (bits_of rest)) (drop_all i wanted all)
