-- What an entry that is kept in little memory stands for.
use Rattle.std.specs.Prelude.{true, false, Some, None}
use Rattle.ogg_packets.specs.declared.entry.Entry.{Entry}
use Rattle.ogg_packets.specs.declared.entry.Entry.TheVariants as entries
use Rattle.ogg_packets.specs.declared.kept.Packed.{Packed}
use Rattle.ogg_packets.specs.declared.kept.Packed.TheVariants.{Lost, Whole, Marked, Last, Other}
use Rattle.ogg_packets.specs.Entries.{whole}

abbrev pub entry_in : Packed → Entry
entry_in Lost = entries.Lost
entry_in (Whole place len) = whole place len None
entry_in (Marked place len granule) =
    whole place len (Some (record { granule = granule; last = false }))
entry_in (Last place len granule) =
    whole place len (Some (record { granule = granule; last = true }))
entry_in (Other entry) = entry.value
