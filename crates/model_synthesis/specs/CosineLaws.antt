-- Laws of the cosine that hold for all tables.
use Rattle.std.specs.Prelude.{◌≡◌, ℕ, ◌+◌, ◌*◌, ◌%◌, neg_ℤ}
use Rattle.model_setup.specs.HeaderPackets.{IsBlockSize}
use Rattle.model_synthesis.specs.Tables.{ConstantTables, cosq}

-- u is -t, some whole turns on
abbrev pub CosqIsEven : Type 0
CosqIsEven =
    (tables : ConstantTables) (size t u turns : ℕ)
    → IsBlockSize size
    → t % 2 ≡ 1
    → t + u ≡ turns * (4 * size)
    → cosq tables size u ≡ cosq tables size t

abbrev pub CosqChangesItsSign : Type 0
CosqChangesItsSign =
    (tables : ConstantTables) (size t : ℕ)
    → IsBlockSize size
    → t % 2 ≡ 1
    → cosq tables size (t + 2 * size) ≡ neg_ℤ (cosq tables size t)

abbrev pub CosqReturns : Type 0
CosqReturns =
    (tables : ConstantTables) (size t turns : ℕ)
    → IsBlockSize size
    → cosq tables size (t + turns * (4 * size)) ≡ cosq tables size t
