-- Registers of the checksum at the beginnings of slabs.
use Rattle.std.specs.Prelude.{◌≡◌, ℕ, ◌+◌, ◌*◌, ◌-◌, ◌%◌, ◌<◌, ◌≤◌, List, length, take, drop, fold, slice_index}
use Rattle.model_ogg.specs.Checksum.{with_byte}
use Rattle.ogg_pages.specs.declared.leaps.TheConstants.{SLAB_LEN}
use Rattle.ogg_pages.specs.declared.ring.TheConstants.{KEPT}
use Rattle.ogg_pages.specs.declared.ring.Ring.{Ring}

-- the bytes from one place on and before another
abbrev pub bytes_between : List ℕ → ℕ → ℕ → List ℕ
bytes_between bytes from end = take (end - from) (drop from bytes)

-- the register that is kept for a slab
abbrev pub kept_at : Ring → ℕ → ℕ
kept_at ring slab = slice_index ring.registers (slab % KEPT)

-- for each slab from the first to the last there is a register at its beginning, which is what the
-- bytes of the slab before make of the register there
pub record IsRing (bytes : List ℕ) (ring : Ring) : Type 0 where
  pub long : length ring.registers ≡ KEPT
  pub ordered : ring.first ≤ ring.last
  pub near : ring.last < ring.first + KEPT
  pub within : ring.last * SLAB_LEN ≤ length bytes
  pub steps : (k : ℕ) → ring.first ≤ k → k < ring.last → kept_at ring (k + 1)
      ≡ fold with_byte (kept_at ring k)
      (bytes_between bytes (k * SLAB_LEN) (k * SLAB_LEN + SLAB_LEN))
