-- What a dump has written, in its midst and at its end.
use Rattle.std.specs.Prelude.{◌≡◌, ℕ, ◌-◌, ◌*◌, ◌≤◌, List, ◌++◌, length, map, take, Option, Result, MatchResult}
use Rattle.std.specs.Io.KnownBytes.{Appends}
use Rattle.std.specs.List.{range_with_len}
use Rattle.vf_outside.specs.Told.{AppendsPart}
use Rattle.vf_outside.specs.declared.sink.PutFault.{PutFault}
use Rattle.vf_outside.specs.declared.sink.PutFault.TheVariants as put_faults
use Rattle.model_line.specs.declared.item.Span.{Span}
use Rattle.model_line.specs.Decode.{LineItem, frame}
use Rattle.model_line.specs.Origins.{overlap_len}
use Rattle.model_line.specs.Blocks.{Values, len_of, overlap_frame, Frame, IsHalfBlock}
use Rattle.model_film.specs.Dumps.{line_bytes}
use Rattle.film_dump.specs.declared.fault.DumpFault.{DumpFault}
use Rattle.film_dump.specs.declared.fault.DumpFault.TheVariants as faults

-- the fault that a put's fault is
abbrev pub fault_of_put : PutFault → DumpFault
fault_of_put put_faults.Failed = faults.Failed
fault_of_put put_faults.Memory = faults.Memory

-- ---- in the midst of a dump

-- A dump came so far as these items: since it began, the first of them were written, and the bytes
-- of the others wait.
pub record CameTo (start now : Option (List ℕ)) (waiting : List ℕ) (items : List (LineItem Frame))
    : Type 0 where
  pub put : List (LineItem Frame)
  pub behind : List (LineItem Frame)
  pub parts : items ≡ put ++ behind
  pub written : Appends start now (line_bytes put)
  pub waits : waiting ≡ line_bytes behind

-- A dump of these items was broken off by a fault: a front of their bytes was written; and where
-- memory ran out, the bytes of the first so many items.
abbrev pub BrokeOff : DumpFault → Option (List ℕ) → Option (List ℕ) → List (LineItem Frame)
    → Type 0
BrokeOff faults.Failed start now items = AppendsPart start now (line_bytes items)
BrokeOff faults.Memory start now items =
    (count : ℕ) × Appends start now (line_bytes (take count items))

-- A step goes on with these items, wherever the dump had come, or is broken off. It takes the sink
-- from `old` to `new`, and the bytes that wait from `before` to `after`.
abbrev pub GoesOn : {A : Type 0} → (old new : Option (List ℕ)) → (before after : List ℕ)
    → List (LineItem Frame) → Result A DumpFault → Type 0
GoesOn old new before after more result = (start : Option (List ℕ)) (items : List (LineItem Frame))
    → CameTo start old before items
    → MatchResult result (λ _. CameTo start new after (items ++ more))
    (λ fault. BrokeOff fault start new (items ++ more))

-- ---- spans

-- the frames of a span, between these halves
abbrev pub span_frames : Values → Values → Span → List (LineItem Frame)
span_frames right left s =
    map (λ j. frame s.link (overlap_frame right left j)) (range_with_len s.from (s.to - s.from))

-- a span is among the frames that these halves of blocks give
pub record FitsHalves (right left : Values) (s : Span) : Type 0 where
  pub is_right : IsHalfBlock (length left) right
  pub is_left : IsHalfBlock (length left) left
  pub order : s.from ≤ s.to
  pub within : s.to ≤ overlap_len (2 * len_of right) (2 * len_of left)
