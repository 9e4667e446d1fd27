use Rattle.std.proofs.Common.{refl}
use Rattle.ogg_pages.proofs.page_out.bytes_without_checksum.Goals as goal

pub returns-clause-bytes : goal.returns-clause-bytes
returns-clause-bytes c =
    rw (
      c.in_ok-extend_from_slice-7.ensures.items,
      c.in_ok-extend_from_slice-6.ensures.items,
      c.in_ok-push-2.ensures.items,
      c.in_ok-extend_from_slice-5.ensures.items,
      c.in_ok-extend_from_slice-4.ensures.items,
      c.in_ok-extend_from_slice-3.ensures.items,
      c.in_ok-extend_from_slice-2.ensures.items,
      c.in_ok-push.ensures.items,
      c.in_ok-extend_from_slice.ensures.items,
      c.new-bytes.ensures.items,
      c.to_le_bytes.ensures,
      c.granule_number.ensures,
      c.to_le_bytes-2.ensures,
      c.to_le_bytes-3.ensures,
    ) refl
