use Rattle.std.proofs.Common.{◌≡◌, ◌-◌, ℕ, List}
use Rattle.model_bits.specs.Bits.{bits_of}
use Rattle.model_bits.specs.Reading.{times}
use Rattle.model_bits.proofs.Times.{with_front}
use Rattle.model_setup.specs.HeaderPackets.{text_at}
use Rattle.head_packets.proofs.comments.behind_texts.Given as goal

abbrev pub invariant-loop : goal.invariant-loop
invariant-loop l = (texts : List (List ℕ)) × (with_front texts (times (l.count - l.counter) text_at (bits_of l.rest)) ≡ times l.count text_at (bits_of l.fn.bytes))
