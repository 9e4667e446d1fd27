use Rattle.ogg_pages.proofs.Linear.{four_by_entries}
use Rattle.ogg_pages.proofs.crc.four_added.Goals as goal

pub returns : goal.returns
returns c =
    four_by_entries c.args.register _ c.args.bytes.now c.to_be_bytes-tops.result _ _ _ _ c.ranges.register.fits c.fits-bytes c.told-bytes c.read_u32.ensures c.to_be_bytes-tops.ensures
    c.entry.ensures c.entry-2.ensures c.entry-3.ensures c.entry-4.ensures
