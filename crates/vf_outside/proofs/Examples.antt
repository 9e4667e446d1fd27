-- Worked rows of the definitions: names and bytes are written as short lists of numbers.
use Rattle.std.proofs.Common.{◌≡◌, ℕ, ◌-◌, ◌^◌, true, false, [], ◌∷◌, Some, None, Err, refl}
use Rattle.vf_outside.specs.declared.shelf.FetchFault.TheVariants.{Failed}
use Rattle.vf_outside.specs.Faults.{one_more}
use Rattle.vf_outside.specs.Memory.{Files, place_of, held, is_next_failing, ShelfState, fault_count, after_fetch}

-- the name 97 twice and the name 98 without bytes
abbrev three : Files
three = (97 ∷ [], 1 ∷ 2 ∷ []) ∷ (98 ∷ [], []) ∷ (97 ∷ [], 3 ∷ []) ∷ []

abbrev shelf : ShelfState
shelf = record { files = three; failing = 2 ∷ []; calls = 1; faulted = [] }

-- of equal names the first counts
pub first-counts : held three (97 ∷ []) ≡ Some (1 ∷ 2 ∷ [])
first-counts = refl

pub empty-is-held : held three (98 ∷ []) ≡ Some []
empty-is-held = refl

pub not-held : held three (99 ∷ []) ≡ None
not-held = refl

-- a front of a name is another name, and all names that are not held have one place
pub front-not-held : place_of three [] ≡ place_of three (97 ∷ 98 ∷ [])
front-not-held = refl

-- calls are numbered from 1
pub first-call : is_next_failing (1 ∷ []) 0 ≡ true
first-call = refl

pub no-call-zero : is_next_failing (0 ∷ []) 0 ≡ false
no-call-zero = refl

pub second-call : is_next_failing shelf.failing shelf.calls ≡ true
second-call = refl

-- a fault of the name 97 counts there and nowhere else
pub counted-there : fault_count (after_fetch {A = ℕ} shelf (97 ∷ []) (Err Failed)) (97 ∷ []) ≡ 1
counted-there = refl

pub not-counted-there : fault_count (after_fetch {A = ℕ} shelf (97 ∷ []) (Err Failed)) (98 ∷ []) ≡ 0
not-counted-there = refl

-- a fault of one name that is not held counts for each other that is not held
pub counted-together : fault_count (after_fetch {A = ℕ} shelf (99 ∷ []) (Err Failed)) (100 ∷ []) ≡ 1
counted-together = refl

-- a count stands still at its last value
pub stands-still : one_more (2 ^ 64 - 1) ≡ 2 ^ 64 - 1
stands-still = refl
