-- Patches: frames that are given in place of the first ones of a run.
use Rattle.std.specs.Prelude.{List, ◌++◌, length, take, drop}

-- a list whose first items are replaced by those of another one, as far as both go
abbrev pub patched : {A : Type 0} → List A → List A → List A
patched front back = take (length back) front ++ drop (length front) back
