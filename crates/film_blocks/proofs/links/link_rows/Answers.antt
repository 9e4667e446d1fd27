use Rattle.std.proofs.lemmas.List.{drop-map}
use Rattle.std.proofs.Common.{refl}
use Rattle.ogg_packets.specs.Entries.{item_of}
use Rattle.model_line.specs.PacketRows.{rows_by}
use Rattle.film_blocks.proofs.links.link_rows.Goals as goal

pub returns : goal.returns
unfolding rows_by
returns c =
    let said = rw (c.after.ensures, c.long_flags.ensures) at c.in_ok-rows.ensures in
    rw (said, drop-map (item_of c.args.bytes.now) 3 c.args.entries.now) refl
