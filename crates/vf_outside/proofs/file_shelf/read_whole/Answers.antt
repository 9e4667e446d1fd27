use Rattle.std.proofs.Common.{◌<◌, ◌≤◌, ◌^◌, length, arith}
use Rattle.vf_outside.proofs.Reading.{all-within}
use Rattle.vf_outside.proofs.file_shelf.read_whole.Goals as goal

pub returns-clause-bytes : goal.returns-clause-bytes
returns-clause-bytes g c =
    let buf = c.read_to_end.new.buf in
    let within : length buf.items ≤ c.args.limit = omega (arith, buf.ok.0, c.len.ensures) in
    let small : length buf.items < 2 ^ 63 = omega (arith, buf.ok.0, buf.ok.1, buf.small) in
    let limit_is = rw c.saturating_add-most.ensures at c.take.ensures.limit in
    let read = rw c.take.ensures.inner at c.in_ok-read_to_end.ensures.bytes in
    all-within (g.F.Read.remaining c.args.file) c.args.limit c.take.result.limit c.in_ok-bytes.bytes.items buf.items limit_is c.in_ok-bytes.ensures.items within small read
