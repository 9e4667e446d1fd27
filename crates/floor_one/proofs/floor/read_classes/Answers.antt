use Rattle.std.proofs.Common.{◌∙◌, length-append, arith}
use Rattle.std.proofs.lemmas.List.Elements.{All-push}
use Rattle.model_bits.proofs.Times.{times_goes_on}
use Rattle.model_setup.specs.FloorSetup.{IsFloorClass, NamesBooks}
use Rattle.model_setup.specs.FloorReading.{class_at}
use Rattle.floor_one.proofs.floor.read_classes.Goals as goal

pub loop-preserved : goal.loop-preserved
loop-preserved c =
    let m = class_at c.args.books in
    let n = c.loop.invariant.count in
    rw c.push.ensures.items (record {
      read = times_goes_on m c.loop.classes.items c.args.count c.loop.counter c.loop.bits.left _ c.loop.invariant.read c.in_ok-class.class c.read_class.new.bits.left c.loop-test.true c.in_ok-class.ensures.read;
      count = simp length-append (omega arith);
      classes = All-push IsFloorClass c.loop.classes.items c.in_ok-class.class c.loop.invariant.classes c.in_ok-class.ensures.class;
      books = All-push (NamesBooks c.args.books) c.loop.classes.items c.in_ok-class.class c.loop.invariant.books c.in_ok-class.ensures.books;
      bytes = c.in_ok-class.ensures.bytes ∙ c.loop.invariant.bytes;
    })
