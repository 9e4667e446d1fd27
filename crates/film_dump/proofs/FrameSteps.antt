-- How the frames of a span are added, one after the other.
use Rattle.std.proofs.Common.{◌≡◌, ℕ, ◌+◌, ◌-◌, ◌≤◌, ℤ, List, [], ◌∷◌, ◌++◌, map, drop, Option, refl, sym, ap, ◌∙◌, arith, append_assoc, append-nil, take-append-drop, to_z, of_z, w16, pos, negsuc, ◌≤ℤ◌, ◌^◌, FitsSigned}
use Rattle.std.specs.Int.{to_le_bytes, cast_unsigned}
use Rattle.std.specs.List.{range_with_len}
use Rattle.std.proofs.lemmas.Int.{ints, to_z-of_z}
use Rattle.std.specs.Prelude.{◌<ℤ◌, neg_ℤ}
use Rattle.std.proofs.lemmas.List.Concat.{flat_map-append}
use Rattle.std.proofs.lemmas.List.FromFn.{map-range_with_len_more, take-map-range_with_len}
use Rattle.model_line.specs.Decode.{LineItem, frame}
use Rattle.model_line.specs.Blocks.{Frame}
use Rattle.model_line.specs.FrameBytes.{sample_bytes, frame_bytes}
use Rattle.model_synthesis.specs.Samples.{pcm}
use Rattle.model_synthesis.proofs.Nearest.{samples_have_16_bits}
use Rattle.film_dump.specs.declared.fault.DumpFault.{DumpFault}
use Rattle.film_dump.specs.Dumps.{CameTo, BrokeOff}
use Rattle.film_dump.proofs.Midst.{came_to_more, broke_off_more}

-- ---- the samples of one frame

pub frame_bytes-nil : frame_bytes [] ≡ []
unfolding frame_bytes
frame_bytes-nil = refl

sample_fits : (z : ℤ) → neg_ℤ (pos (2 ^ 15)) ≤ℤ z → z <ℤ pos (2 ^ 15) → FitsSigned w16 z
sample_fits (pos n) low high = omega (arith, ints, low, high)
sample_fits (negsuc n) low high = omega (arith, ints, low, high)

-- a sample is of 16 bits, so that it is read as it was made
pub sample_is : (r v : ℤ) → r ≡ pcm v → to_le_bytes w16 (cast_unsigned w16 (to_z w16 (of_z w16 r))) ≡ sample_bytes v
sample_is r v e = ap (λ (z : ℤ). to_le_bytes w16 (cast_unsigned w16 z)) (ap (λ (z : ℤ). to_z w16 (of_z w16 z)) e ∙ to_z-of_z w16 (pcm v) (let fits = samples_have_16_bits v in sample_fits (pcm v) fits.0 fits.1))

pub sample_step : (f : ℕ → ℤ) (c : ℕ) (old now more : List ℕ) (v : ℤ) → now ≡ old ++ frame_bytes (map f (range_with_len 0 c)) → more ≡ now ++ sample_bytes v → v ≡ f c → more ≡ old ++ frame_bytes (map f (range_with_len 0 (c + 1)))
unfolding frame_bytes
sample_step f c old now more v now-is more-is v-is =
    rw (more-is, now-is, v-is, map-range_with_len_more f 0 c c (omega arith), flat_map-append sample_bytes (map f (range_with_len 0 c)) (f c ∷ []), append-nil (sample_bytes (f c)))
    (append_assoc old (frame_bytes (map f (range_with_len 0 c))) (sample_bytes (f c)))

-- ---- the frames of numbers from one on

module _ (link : ℕ) (f : ℕ → Frame) (from : ℕ) where
  -- the frames of so many numbers
  abbrev pub so_many : ℕ → List (LineItem Frame)
  so_many count = map (λ j. frame link (f j)) (range_with_len from count)

  -- a front of them, and the others
  parts : (n k : ℕ) → k ≤ n → so_many n ≡ so_many k ++ drop k (so_many n)
  parts n k le =
      sym (take-append-drop k (so_many n))
      ∙ ap (λ (xs : List (LineItem Frame)). xs ++ drop k (so_many n)) (take-map-range_with_len (λ j. frame link (f j)) from n k le)

  one_more : (number : ℕ) → from ≤ number → so_many (number + 1 - from) ≡ so_many (number - from) ++ frame link (f number) ∷ []
  one_more number le =
      let e : number + 1 - from ≡ number - from + 1 = omega arith in
      ap so_many e ∙ map-range_with_len_more (λ j. frame link (f j)) from (number - from) number (omega arith)

  -- the frames of the numbers up to one were added, wherever the dump had come before
  abbrev pub Added : Option (List ℕ) → Option (List ℕ) → List ℕ → List ℕ → ℕ → Type 0
  Added old now before waiting number =
      (start : Option (List ℕ)) (items : List (LineItem Frame)) → CameTo start old before items → CameTo start now waiting (items ++ so_many (number - from))

  pub added_none : (old : Option (List ℕ)) (before : List ℕ) → Added old old before before from
  added_none old before = λ start items h.
      let none : from - from ≡ 0 = omega arith in
      rw (none, append-nil items) h

  -- one frame more waits
  pub added_more : (old now : Option (List ℕ)) (before waiting more : List ℕ) (number : ℕ) → from ≤ number → Added old now before waiting number → more ≡ waiting ++ frame_bytes (f number) → Added old now before more (number + 1)
  added_more old now before waiting more number le h e = λ start items came.
      let next = came_to_more start now waiting more (items ++ so_many (number - from)) (frame link (f number)) (h start items came) e in
      rw (one_more number le, sym (append_assoc items (so_many (number - from)) (frame link (f number) ∷ []))) next

  -- a put that went well
  pub added_put : (old now new : Option (List ℕ)) (before waiting after : List ℕ) (number : ℕ) → Added old now before waiting number
      → ((start : Option (List ℕ)) (items : List (LineItem Frame)) → CameTo start now waiting items → CameTo start new after (items ++ [])) → Added old new before after number
  added_put old now new before waiting after number h step = λ start items came.
      let next = step start (items ++ so_many (number - from)) (h start items came) in
      rw (append-nil (items ++ so_many (number - from))) at next

  -- a fault among frames that were added is one of all frames
  pub broken_off : (fault : DumpFault) (old now new : Option (List ℕ)) (before waiting : List ℕ) (number n : ℕ) → number - from ≤ n → Added old now before waiting number
      → ((start : Option (List ℕ)) (items : List (LineItem Frame)) → CameTo start now waiting items → BrokeOff fault start new (items ++ []))
      → (start : Option (List ℕ)) (items : List (LineItem Frame)) → CameTo start old before items → BrokeOff fault start new (items ++ so_many n)
  broken_off fault old now new before waiting number n le h stop = λ start items came.
      let part = so_many (number - from) in
      let stopped = rw (append-nil (items ++ part)) at (stop start (items ++ part) (h start items came)) in
      rw (parts n (number - from) le, sym (append_assoc items part (drop (number - from) (so_many n)))) (broke_off_more fault start new (items ++ part) (drop (number - from) (so_many n)) stopped)
