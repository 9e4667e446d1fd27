use Rattle.std.proofs.Common.{◌∙◌, length-append, arith}
use Rattle.std.proofs.lemmas.Result.{err_from_is_err_and}
use Rattle.std.proofs.lemmas.List.Elements.{All-push}
use Rattle.model_bits.proofs.Each.{each_number_goes_on, each_number_fails, each_number_ends}
use Rattle.model_setup.specs.FloorSetup.{IsFloor, FloorNamesBooks}
use Rattle.model_setup.specs.SetupPacket.{numbered_floor_at}
use Rattle.setup_header.proofs.parts.read_each_floor.Goals as goal

pub loop-number-preserved : goal.loop-number-preserved
loop-number-preserved c =
    let n = c.loop-number.invariant.count in
    rw c.in_ok-push.ensures.items (record {
      read = each_number_goes_on (numbered_floor_at c.args.books) c.loop-number.floors.items c.args.count c.loop-number.number c.loop-number.bits.left _ c.loop-number.invariant.read c.in_ok-floor.floor c.read_floor.new.bits.left c.loop-number-test.true c.in_ok-floor.ensures.read;
      count = simp length-append (omega arith);
      floors = All-push (IsFloor) c.loop-number.floors.items c.in_ok-floor.floor c.loop-number.invariant.floors c.in_ok-floor.ensures.floor;
      books = All-push (FloorNamesBooks c.args.books) c.loop-number.floors.items c.in_ok-floor.floor c.loop-number.invariant.books c.in_ok-floor.ensures.books;
      bytes = c.in_ok-floor.ensures.bytes ∙ c.loop-number.invariant.bytes;
    })

pub returns-in_err-floor-clause-read : goal.returns-in_err-floor-clause-read
returns-in_err-floor-clause-read c =
    let failed = err_from_is_err_and c.from_residual.result c.from_residual.ensures.1 in
    rw (failed.1, failed.2) (λ other. each_number_fails (numbered_floor_at c.args.books) c.loop-number.floors.items c.args.count c.loop-number.number c.loop-number.bits.left _ c.loop-number.invariant.read c.in_err-floor.field-0.0 c.loop-number-test.true (c.in_err-floor.ensures.read))

pub returns-clause-read : goal.returns-clause-read
returns-clause-read c = each_number_ends (numbered_floor_at c.args.books) c.loop-number.floors.items c.args.count c.loop-number.number c.loop-number.bits.left _ c.loop-number.invariant.read (omega arith)
