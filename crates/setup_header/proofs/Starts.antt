-- Bytes that must be others, read one after the other.
use Rattle.std.proofs.Common.{◌≡◌, ℕ, ◌+◌, ◌<◌, ◌≤◌, suc, List, ◌∷◌, length, drop, get_or, Bool, true, false, ◌==◌, Result, Ok, Err, sym, ap, ◌∙◌, add-one, drop-cons}
use Rattle.std.proofs.lemmas.List.{drop_all}
use Rattle.model_bits.specs.Reading.{then_read, require, bits, ◌>>◌}
use Rattle.model_setup.specs.declared.head.StartCause.{StartCause}
use Rattle.model_setup.specs.declared.head.StartCause.TheVariants as starts
use Rattle.model_setup.specs.HeaderPackets.{bytes_at}

-- the next byte decides, or its end
next : (wanted : ℕ) (others : List ℕ) (left : List Bool) (read : Result (ℕ × List Bool) StartCause)
    → bits starts.End 8 left ≡ read
    → bytes_at (wanted ∷ others) left ≡ then_read read (λ (b : ℕ). require (b == wanted) starts.Kind >> bytes_at others)
unfolding bytes_at
next wanted others left read h =
    ap (λ r. then_read r (λ (b : ℕ). require (b == wanted) starts.Kind >> bytes_at others)) h

-- a loop over the wanted bytes: what is left to be read gives the whole reading's answer
module _ (wanted : List ℕ) (i : ℕ) (left : List Bool) (whole : Result (ℕ × List Bool) StartCause) (so_far : bytes_at (drop i wanted) left ≡ whole) where
  here : (read : Result (ℕ × List Bool) StartCause) → i < length wanted → bits starts.End 8 left ≡ read
      → whole ≡ then_read read (λ (b : ℕ). require (b == get_or wanted i 0) starts.Kind >> bytes_at (drop (suc i) wanted))
  here read inside h =
      sym so_far ∙ ap (λ ws. bytes_at ws left) (drop-cons wanted i 0 inside) ∙ next (get_or wanted i 0) (drop (suc i) wanted) left read h

  pub bytes_fail : (cause : StartCause) → i < length wanted → bits starts.End 8 left ≡ Err cause → whole ≡ Err cause
  bytes_fail cause inside h = here (Err cause) inside h

  module _ (byte : ℕ) (after : List Bool) (inside : i < length wanted) (read : bits starts.End 8 left ≡ Ok (byte, after)) where
    pub bytes_differ : (byte == get_or wanted i 0) ≡ false → whole ≡ Err starts.Kind
    bytes_differ other =
        here (Ok (byte, after)) inside read ∙ ap (λ b. then_read (require b starts.Kind after) (λ _. bytes_at (drop (suc i) wanted))) other

    pub bytes_go_on : (byte == get_or wanted i 0) ≡ true → bytes_at (drop (i + 1) wanted) after ≡ whole
    bytes_go_on same =
        rw add-one (sym (here (Ok (byte, after)) inside read ∙ ap (λ b. then_read (require b starts.Kind after) (λ _. bytes_at (drop (suc i) wanted))) same))

  pub bytes_done : length wanted ≤ i → whole ≡ Ok (0, left)
  unfolding bytes_at
  bytes_done all = sym so_far ∙ ap (λ ws. bytes_at ws left) (drop_all i wanted all)
