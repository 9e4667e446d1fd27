use Rattle.std.proofs.Common.{arith}
use Rattle.film_blocks.proofs.FirstThree.{packet_first}
use Rattle.film_blocks.proofs.headers.packet_bytes.Goals as goal

pub returns-in-len1-up : goal.returns-in-len1-up
returns-in-len1-up c =
    let first = packet_first c.args.bytes.now c.args.entries.now c.entry-item.result (omega arith) c.entry-item.is in
    rw (← first) c.bytes.ensures
