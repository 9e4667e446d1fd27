use Rattle.std.proofs.Common.{◌≡◌, ◌+◌, ◌/◌, ◌^◌, ◌<◌, length, drop}
use Rattle.std.specs.List.{All, range_with_len}
use Rattle.model_bits.specs.Reading.{each, with_front}
use Rattle.model_setup.specs.FloorPacket.{entry_or_0_at, book_of_value}
use Rattle.floor_one.proofs.decoding.read_digits.Given as goal

abbrev pub invariant-loop : goal.invariant-loop
invariant-loop l = record {
  read : with_front l.values.items (each (λ j. entry_or_0_at l.books (book_of_value l.class l.fn.word j)) (drop l.counter (range_with_len 0 l.class.dimensions)) l.bits.left)
      ≡ with_front l.fn.values.items (each (λ j. entry_or_0_at l.books (book_of_value l.class l.fn.word j)) (range_with_len 0 l.class.dimensions) l.fn.bits.left);
  word : l.word ≡ l.fn.word / (2 ^ l.class.subclass_bits) ^ l.counter;
  count : length l.values.items ≡ length l.fn.values.items + l.counter;
  small : All (λ y. y < 2 ^ 24) l.fn.values.items → All (λ y. y < 2 ^ 24) l.values.items;
  bytes : l.bits.total ≡ l.fn.bits.total;
}
