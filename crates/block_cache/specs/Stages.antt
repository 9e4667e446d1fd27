-- What the stage of an errand is by itself, and what it holds.
use Rattle.std.specs.Prelude.{◌≡◌, ℕ, IfSome, is_some}
use Rattle.model_replay.specs.Errands as steps
use Rattle.model_replay.specs.Errands.{Step}
use Rattle.block_cache.specs.declared.stage.Stage.{Stage}
use Rattle.block_cache.specs.declared.stage.Stage.TheVariants.{Begin, Shown, Missed, Asked, Pinned, Unset, Leased, Alone, Made, Ended}
use Rattle.block_cache.specs.Meanings.{Meaning}

-- the step of an errand at this stage
module _ {P L Q K : Type 0} where
  abbrev pub step_of : Stage P L Q K → Step
  step_of Begin = steps.Begin
  step_of (Shown pin) = steps.Shown
  step_of Missed = steps.Missed
  step_of (Asked lease) = steps.Asked (is_some lease)
  step_of (Pinned lease pin) = steps.Pinned (is_some lease)
  step_of (Unset lease) = steps.Unset (is_some lease)
  step_of (Leased lease other) = steps.Leased (is_some lease)
  step_of (Alone lease) = steps.Alone (is_some lease)
  step_of (Made lease block) = steps.Made (is_some lease)
  step_of Ended = steps.Ended

-- the pins and leases are those of these two benches
module _ {B S P L Q K : Type 0} (has_pin : B → P → Type 0) (has_lease : B → L → Type 0)
    (has_setup_pin : S → Q → Type 0) (has_setup_lease : S → K → Type 0) where
  abbrev pub AreHeld : B → S → Stage P L Q K → Type 0
  AreHeld b s Begin = Unit {0}
  AreHeld b s (Shown pin) = has_pin b pin
  AreHeld b s Missed = Unit {0}
  AreHeld b s (Asked lease) = IfSome lease (has_lease b)
  AreHeld b s (Pinned lease pin) = IfSome lease (has_lease b) × has_setup_pin s pin
  AreHeld b s (Unset lease) = IfSome lease (has_lease b)
  AreHeld b s (Leased lease other) = IfSome lease (has_lease b) × has_setup_lease s other
  AreHeld b s (Alone lease) = IfSome lease (has_lease b)
  AreHeld b s (Made lease block) = IfSome lease (has_lease b)
  AreHeld b s Ended = Unit {0}

-- a lease is for this block
module _ {L : Type 0} (lease_key : L → ℕ) where
  abbrev pub IsFor : ℕ → L → Type 0
  IsFor block lease = lease_key lease ≡ block

-- The pins and leases are for the errand's block and for its link, and a block that it has decoded
-- is the maker's.
module _ {P L Q K : Type 0} (pin_key : P → ℕ) (lease_key : L → ℕ) (setup_pin_key : Q → ℕ)
    (setup_lease_key : K → ℕ) where
  abbrev pub AreRight : Meaning → ℕ → Stage P L Q K → Type 0
  AreRight meaning block Begin = Unit {0}
  AreRight meaning block (Shown pin) = pin_key pin ≡ block
  AreRight meaning block Missed = Unit {0}
  AreRight meaning block (Asked lease) = IfSome lease (IsFor lease_key block)
  AreRight meaning block (Pinned lease pin) =
      IfSome lease (IsFor lease_key block) × (setup_pin_key pin ≡ meaning.link block)
  AreRight meaning block (Unset lease) = IfSome lease (IsFor lease_key block)
  AreRight meaning block (Leased lease other) =
      IfSome lease (IsFor lease_key block) × (setup_lease_key other ≡ meaning.link block)
  AreRight meaning block (Alone lease) = IfSome lease (IsFor lease_key block)
  AreRight meaning block (Made lease made) =
      IfSome lease (IsFor lease_key block) × (made ≡ meaning.block block)
  AreRight meaning block Ended = Unit {0}
