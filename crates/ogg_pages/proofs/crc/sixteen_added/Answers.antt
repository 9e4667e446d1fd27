use Rattle.std.proofs.Common.{◌≡◌, ℕ, List, length, take, drop, ap, ◌∙◌, arith}
use Rattle.std.proofs.lemmas.List.{take_all, length-drop}
use Rattle.byteorder.specs.Endian.{big_number}
use Rattle.ogg_pages.proofs.Linear.{sixteen_by_entries}
use Rattle.ogg_pages.proofs.crc.sixteen_added.Goals as goal

behind_four : (bytes : List ℕ) → length bytes ≡ 16 → take 12 (drop 4 bytes) ≡ drop 4 bytes
behind_four bytes len = take_all 12 (drop 4 bytes) (omega (arith, length-drop 4 bytes))

pub returns : goal.returns
returns c =
    sixteen_by_entries c.args.register _ _ c.args.bytes.now c.to_be_bytes-first.result c.to_be_bytes-second.result _ _ _ _ _ _ _ _ _ _ _ _ _ _ _ _ c.ranges.register.fits c.fits-bytes c.told-bytes
    c.read_u32.ensures c.to_be_bytes-first.ensures (c.read_u32-2.ensures ∙ ap (big_number 4) (behind_four c.args.bytes.now c.told-bytes)) c.to_be_bytes-second.ensures
    c.entry.ensures c.entry-2.ensures c.entry-3.ensures c.entry-4.ensures c.entry-5.ensures c.entry-6.ensures c.entry-7.ensures c.entry-8.ensures
    c.entry-9.ensures c.entry-10.ensures c.entry-11.ensures c.entry-12.ensures c.entry-13.ensures c.entry-14.ensures c.entry-15.ensures c.entry-16.ensures
