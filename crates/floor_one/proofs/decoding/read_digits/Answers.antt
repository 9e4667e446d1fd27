use Rattle.std.proofs.Common.{◌∙◌, ◌≡◌, ◌+◌, ◌*◌, ◌%◌, ◌^◌, ◌<◌, ◌≤◌, length, ap, arith}
use Rattle.std.proofs.lemmas.List.Elements.{All-push}
use Rattle.model_setup.specs.FloorSetup.{FloorClass}
use Rattle.model_bits.proofs.Each.{each_number_ends}
use Rattle.floor_one.proofs.DigitReads.{power_is, next_digits, value_reading, digit_read, digit_ends}
use Rattle.floor_one.proofs.decoding.read_digits.Goals as goal

pub returns-in_err-value-clause-ended : goal.returns-in_err-value-clause-ended
returns-in_err-value-clause-ended c =
    let class = c.args.class.now in
    let divisor : 1 * 2 ^ c.class.inside.subclass_bits % 2 ^ 32 ≡ 2 ^ class.subclass_bits = power_is class.subclass_bits c.class.inside.subclass_bits (ap (λ (k : FloorClass). k.subclass_bits) c.class.view_is) c.requires.class.subclasses in
    let within : c.loop.counter < class.dimensions = rw (← c.class.view_is) c.loop-test.true in
    rw c.from_residual.ensures (digit_ends c.args.books.now class c.args.word c.loop.word _ c.loop.counter c.book_of.result c.args.bits.now.left c.loop.bits.left c.args.values.now.items c.loop.values.items c.loop.invariant.word divisor c.book_of.ensures within c.loop.invariant.read c.in_err-value.ensures.read.0)

pub loop-preserved : goal.loop-preserved
loop-preserved c =
    let class = c.args.class.now in
    let divisor : 1 * 2 ^ c.class.inside.subclass_bits % 2 ^ 32 ≡ 2 ^ class.subclass_bits = power_is class.subclass_bits c.class.inside.subclass_bits (ap (λ (k : FloorClass). k.subclass_bits) c.class.view_is) c.requires.class.subclasses in
    let within : c.loop.counter < class.dimensions = rw (← c.class.view_is) c.loop-test.true in
    let count = c.loop.invariant.count in
    let len : length c.push.new.self.items ≡ length c.loop.values.items + 1 = c.push.ensures.len in
    let read = digit_read c.args.books.now class c.args.word c.loop.word _ c.loop.counter c.book_of.result c.args.bits.now.left c.loop.bits.left c.args.values.now.items c.loop.values.items c.loop.invariant.word divisor c.book_of.ensures within c.loop.invariant.read c.in_ok-value.value c.read_entry.new.bits.left c.in_ok-value.ensures.read in
    record {
      read = rw c.push.ensures.items read;
      word = next_digits c.args.word c.loop.word (2 ^ class.subclass_bits) c.loop.counter _ c.loop.invariant.word divisor;
      count = omega arith;
      small = λ h. rw c.push.ensures.items (All-push (λ y. y < 2 ^ 24) c.loop.values.items c.in_ok-value.value (c.loop.invariant.small h) c.in_ok-value.ensures.small);
      bytes = c.in_ok-value.ensures.bytes ∙ c.loop.invariant.bytes;
    }

pub returns-clause-read : goal.returns-clause-read
returns-clause-read c =
    let class = c.args.class.now in
    let past : class.dimensions ≤ c.loop.counter = rw (← c.class.view_is) c.loop-test.false in
    each_number_ends (value_reading c.args.books.now class c.args.word) c.loop.values.items class.dimensions c.loop.counter c.loop.bits.left _ c.loop.invariant.read past
