-- What a shelf and a sink in memory are, and what their calls do.
use Rattle.std.specs.Prelude.{◌≡◌, ◌⊎◌, ℕ, ◌==◌, ◌<◌, ◌≤◌, Bool, true, false, List, [], ◌∷◌, ◌++◌, length, Option, Some, None, IsSomeAnd, Result, Ok, Err, option_map, slice_get, count_by, ⊤, map, String, string_bytes, Vec}
use Rattle.std.specs.declared.alloc.Global.{Global}
use Rattle.std.specs.List.{position_or_len, list_any}
use Rattle.std.specs.Str.{bytes_eq}
use Rattle.vf_outside.specs.declared.shelf.FetchFault.{FetchFault}
use Rattle.vf_outside.specs.declared.shelf.FetchFault.TheVariants.{Failed, TooLong, Memory}
use Rattle.vf_outside.specs.declared.sink.PutFault.{PutFault}
use Rattle.vf_outside.specs.declared.sink.PutFault.TheVariants as put
use Rattle.vf_outside.specs.Faults.{one_more}

-- names with their bytes
abbrev pub Files : Type 0
Files = List (List ℕ × List ℕ)

-- pairs of a name and its bytes, as the code holds them
abbrev pub entries : List (String Global × Vec ℕ Global) → Files
entries pairs = map (λ pair. (string_bytes pair.0, pair.1.items)) pairs

-- the place of the first file of this name, or the number of files where there is none
abbrev pub place_of : Files → List ℕ → ℕ
place_of files name = position_or_len (λ file. bytes_eq file.0 name) files

-- the bytes of the first file of this name
abbrev pub held : Files → List ℕ → Option (List ℕ)
held files name = option_map (λ file. file.1) (slice_get files (place_of files name))

-- whether the call after so many calls is listed as one that fails
abbrev pub is_next_failing : List ℕ → ℕ → Bool
is_next_failing failing calls = list_any (λ number. number == one_more calls) failing

-- ---- a shelf

-- its files, the numbers of the calls that fail, how many calls there were, and for each fault the
-- place of its name
pub record ShelfState : Type 0 where
  pub files : Files
  pub failing : List ℕ
  pub calls : ℕ
  pub faulted : List ℕ

-- the faults of a name; all names that are not held have one place, so they are counted together
abbrev pub fault_count : ShelfState → List ℕ → ℕ
fault_count shelf name = count_by (λ place. place == place_of shelf.files name) shelf.faulted

-- the next call may answer Ok with these bytes
abbrev pub Gives : ShelfState → List ℕ → ℕ → List ℕ → Type 0
Gives shelf name limit bytes =
    (is_next_failing shelf.failing shelf.calls ≡ false) × (held shelf.files name ≡ Some bytes)
    × (length bytes ≤ limit)

-- the next call may answer this fault; want of memory is free
abbrev pub Refuses : ShelfState → List ℕ → ℕ → FetchFault → Type 0
Refuses shelf name limit Failed =
    (is_next_failing shelf.failing shelf.calls ≡ true) ⊎ (held shelf.files name ≡ None)
Refuses shelf name limit TooLong =
    (is_next_failing shelf.failing shelf.calls ≡ false)
    × IsSomeAnd (held shelf.files name) (λ bytes. limit < length bytes)
Refuses shelf name limit Memory = ⊤

-- the faults after a call with this answer
abbrev pub faulted_after : {A : Type 0} → ShelfState → List ℕ → Result A FetchFault → List ℕ
faulted_after shelf name (Err Failed) = shelf.faulted ++ place_of shelf.files name ∷ []
faulted_after shelf name (Err TooLong) = shelf.faulted
faulted_after shelf name (Err Memory) = shelf.faulted
faulted_after shelf name (Ok bytes) = shelf.faulted

-- the shelf after a call with this answer
abbrev pub after_fetch : {A : Type 0} → ShelfState → List ℕ → Result A FetchFault → ShelfState
after_fetch shelf name result =
    record shelf { calls = one_more shelf.calls; faulted = faulted_after shelf name result }

-- ---- a sink

-- what was written, the numbers of the calls that fail, how many calls there were, and how many of
-- them failed
pub record SinkState : Type 0 where
  pub written : List ℕ
  pub failing : List ℕ
  pub calls : ℕ
  pub faults : ℕ

-- the sink after a put of these bytes with this answer
abbrev pub after_put : SinkState → List ℕ → Result Unit PutFault → SinkState
after_put sink bytes (Ok done) =
    record sink { written = sink.written ++ bytes; calls = one_more sink.calls }
after_put sink bytes (Err put.Failed) =
    record sink { calls = one_more sink.calls; faults = one_more sink.faults }
after_put sink bytes (Err put.Memory) = record sink { calls = one_more sink.calls }
