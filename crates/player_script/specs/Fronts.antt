-- What a call leaves that found no memory while it wrote.
use Rattle.std.specs.Prelude.{◌≡◌, ◌++◌, List}

-- there is more behind what was there
abbrev pub IsFrontOf : {A : Type 0} → List A → List A → Type 0
IsFrontOf {A} old new = (more : List A) × (new ≡ old ++ more)
