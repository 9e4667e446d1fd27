-- What is told of a name's bytes and of a stream, and what a call may do by it.
use Rattle.std.specs.Prelude.{◌≡◌, ℕ, ◌<◌, List, length, take, Option, Some, None, ⊤, IfSome}
use Rattle.std.specs.Io.KnownBytes.{Appends}

-- nothing (None), that no such name is held (Some None), or the name's bytes
abbrev pub Told : Type 0
Told = Option (Option (List ℕ))

-- a fetch may answer Ok with these bytes
abbrev pub MayGive : Told → List ℕ → Type 0
MayGive None bytes = ⊤
MayGive (Some None) bytes = ⊥
MayGive (Some (Some held)) bytes = bytes ≡ held

-- a fetch may find more bytes than the limit
abbrev pub MayBeTooLong : Told → ℕ → Type 0
MayBeTooLong None limit = ⊤
MayBeTooLong (Some None) limit = ⊥
MayBeTooLong (Some (Some held)) limit = limit < length held

-- known bytes grow by a front of these
abbrev pub AppendsPart : Option (List ℕ) → Option (List ℕ) → List ℕ → Type 0
AppendsPart old new bytes = (count : ℕ) × Appends old new (take count bytes)

-- the bytes that some file has from its start, where they are known, are such
abbrev pub SomeFile : {F : Type 0} → (F → Option (List ℕ)) → (List ℕ → Type 0) → Type 0
SomeFile {F} remaining P = (file : F) × IfSome (remaining file) P

-- a stream: its bytes where they are told, and a count of faults
pub record StreamState : Type 0 where
  pub written : Option (List ℕ)
  pub faults : ℕ
