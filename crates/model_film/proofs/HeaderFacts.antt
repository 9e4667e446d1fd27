-- What identification packets and setups that are accepted say of channels, block sizes, mappings
-- and modes.
use Rattle.std.proofs.Common.{◌≡◌, ◌<◌, ◌-◌, ℕ, List, length, replicate, Result, Ok, Err, Bool, true, not, sym, subst, arith}
use Rattle.std.specs.Prelude.{nat_lt, ◌==◌}
use Rattle.std.specs.List.{All, range_with_len}
use Rattle.std.proofs.lemmas.Bool.{ltb-true}
use Rattle.std.proofs.lemmas.List.{length-replicate}
use Rattle.std.proofs.lemmas.List.Elements.{All-replicate}
use Rattle.model_bits.specs.Bits.{bits_of}
use Rattle.model_bits.specs.Reading.{require, times, give, relabel}
use Rattle.model_setup.specs.declared.setup.SetupFault.{SetupFault}
use Rattle.model_setup.specs.declared.setup.SetupFault.TheVariants.{Bad}
use Rattle.model_setup.specs.declared.setup.SetupCause.TheVariants as causes
use Rattle.model_setup.specs.HeaderPackets.{start_at}
use Rattle.model_setup.specs.SetupCauses.{start_fault}
use Rattle.model_setup.specs.BookReading.{ilog}
use Rattle.model_setup.specs.SetupPacket.{Mode, SetupFields, setup_field, count_at, count_if_flagged_at, number_below_at, zero_at, coupling_at, couplings_at, mux_at, submap_at, mapping_at, mappings_at, mode_at, modes_at, books_at, times_at, floors_at, residues_at, framing_at, setup_at, setup_of, IsCoupling, IsSubmap, IsMapping}
use Rattle.model_film.proofs.Readings.{OfValue, Any, any_of, then_of, require_of, either_of, times_of, each_of, value_of}

-- ---- fields of a setup

below_of : (width bound : ℕ) (fault : SetupFault) (left : List Bool) → OfValue (λ n. n < bound) (number_below_at width bound fault left)
unfolding number_below_at
below_of width bound fault left =
    then_of (setup_field width left) _ Any (λ n. n < bound) (any_of (setup_field width left)) (λ n mid any.
    then_of (require (nat_lt n bound) fault mid) _ (λ u. nat_lt n bound ≡ true) (λ m. m < bound) (require_of (nat_lt n bound) fault mid) (λ u rest lt. ltb-true n bound lt))

count_of : (width : ℕ) (left : List Bool) → OfValue (λ n. 0 < n) (count_at width left)
unfolding count_at
count_of width left = then_of (setup_field width left) _ Any (λ n. 0 < n) (any_of (setup_field width left)) (λ n mid any. omega arith)

flagged_of : (width other : ℕ) (left : List Bool) → 0 < other → OfValue (λ n. 0 < n) (count_if_flagged_at width other left)
unfolding count_if_flagged_at
flagged_of width other left some =
    then_of (setup_field 1 left) _ Any (λ n. 0 < n) (any_of (setup_field 1 left)) (λ flag mid any.
    either_of (flag == 1) (count_at width) (give other) mid (λ n. 0 < n) (count_of width mid) some)

not_same : (a m : ℕ) → not (a == m) ≡ true → a ≡ m → ⊥
not_same a m other same = grind (arith, other, same)

all_of : {E A : Type 0} (r : Result (List A × List Bool) E) (n : ℕ) (P : A → Type 0) → OfValue (λ xs. (length xs ≡ n) × All P xs) r → OfValue (All P) r
all_of (Ok x) n P h = h.1
all_of (Err e) n P h = tt

coupling_of : (channels : ℕ) (fault : SetupFault) (left : List Bool) → OfValue (IsCoupling channels) (coupling_at channels fault left)
unfolding coupling_at
coupling_of channels fault left =
    let width = ilog (channels - 1) in
    then_of (number_below_at width channels fault left) _ (λ n. n < channels) (IsCoupling channels) (below_of width channels fault left) (λ m mid m-lt.
    then_of (number_below_at width channels fault mid) _ (λ n. n < channels) (IsCoupling channels) (below_of width channels fault mid) (λ a rest a-lt.
    then_of (require (not (a == m)) fault rest) _ (λ u. not (a == m) ≡ true) (IsCoupling channels) (require_of (not (a == m)) fault rest) (λ u last other.
    record { magnitude = m-lt; angle = a-lt; apart = λ same. not_same a m other (sym same) })))

couplings_of : (channels : ℕ) (fault : SetupFault) (left : List Bool) → OfValue (All (IsCoupling channels)) (couplings_at channels fault left)
unfolding couplings_at
couplings_of channels fault left =
    then_of (count_if_flagged_at 8 0 left) _ Any (All (IsCoupling channels)) (any_of (count_if_flagged_at 8 0 left)) (λ count mid any.
    all_of (times count (coupling_at channels fault) mid) count (IsCoupling channels) (times_of count (coupling_at channels fault) (IsCoupling channels) (coupling_of channels fault) mid))

-- a submap for each channel
abbrev IsMux : ℕ → ℕ → List ℕ → Type 0
IsMux channels submaps mux = (length mux ≡ channels) × All (λ n. n < submaps) mux

mux_of : (channels submaps : ℕ) (fault : SetupFault) (left : List Bool) → 0 < submaps → OfValue (IsMux channels submaps) (mux_at channels submaps fault left)
unfolding mux_at
mux_of channels submaps fault left some =
    either_of (nat_lt 1 submaps) (times channels (number_below_at 4 submaps fault)) (give (replicate channels 0)) left (IsMux channels submaps)
    (times_of channels (number_below_at 4 submaps fault) (λ n. n < submaps) (below_of 4 submaps fault) left)
    (length-replicate channels 0, All-replicate (λ n. n < submaps) channels 0 some)

submap_of : (floors residues number : ℕ) (left : List Bool) → OfValue (IsSubmap floors residues) (submap_at floors residues number left)
unfolding submap_at
submap_of floors residues number left =
    then_of (setup_field 8 left) _ Any (IsSubmap floors residues) (any_of (setup_field 8 left)) (λ n mid any.
    then_of (number_below_at 8 floors (Bad causes.MappingFloor number) mid) _ (λ f. f < floors) (IsSubmap floors residues) (below_of 8 floors (Bad causes.MappingFloor number) mid) (λ f rest f-lt.
    then_of (number_below_at 8 residues (Bad causes.MappingResidue number) rest) _ (λ r. r < residues) (IsSubmap floors residues) (below_of 8 residues (Bad causes.MappingResidue number) rest) (λ r last r-lt.
    record { floor = f-lt; residue = r-lt })))

mapping_of : (channels floors residues number : ℕ) (left : List Bool) → OfValue (IsMapping channels floors residues) (mapping_at channels floors residues number left)
unfolding mapping_at
mapping_of channels floors residues number left =
    let Q = IsMapping channels floors residues in
    then_of (zero_at 16 (Bad causes.MappingKind number) left) _ Any Q (any_of (zero_at 16 (Bad causes.MappingKind number) left)) (λ z left1 any.
    then_of (count_if_flagged_at 4 1 left1) _ (λ n. 0 < n) Q (flagged_of 4 1 left1 (omega arith)) (λ count left2 some.
    then_of (couplings_at channels (Bad causes.MappingCoupling number) left2) _ (All (IsCoupling channels)) Q (couplings_of channels (Bad causes.MappingCoupling number) left2) (λ couplings left3 within.
    then_of (zero_at 2 (Bad causes.MappingReserved number) left3) _ Any Q (any_of (zero_at 2 (Bad causes.MappingReserved number) left3)) (λ y left4 more.
    then_of (mux_at channels count (Bad causes.MappingMux number) left4) _ (IsMux channels count) Q (mux_of channels count (Bad causes.MappingMux number) left4 some) (λ mux left5 is.
    then_of (times count (submap_at floors residues number) left5) _ (λ xs. (length xs ≡ count) × All (IsSubmap floors residues) xs) Q (times_of count (submap_at floors residues number) (IsSubmap floors residues) (submap_of floors residues number) left5) (λ submaps left6 are.
    record {
      couplings = within;
      all_channels = is.0;
      mux = subst (λ n. All (λ m. m < n) mux) (sym are.0) is.1;
      submaps = are.1;
    }))))))

mappings_of : (channels floors residues : ℕ) (left : List Bool) → OfValue (All (IsMapping channels floors residues)) (mappings_at channels floors residues left)
unfolding mappings_at
mappings_of channels floors residues left =
    let Q = IsMapping channels floors residues in
    then_of (count_at 6 left) _ Any (All Q) (any_of (count_at 6 left)) (λ count mid any.
    each_of (mapping_at channels floors residues) Q (mapping_of channels floors residues) (range_with_len 0 count) mid)

abbrev NamesMapping : ℕ → Mode → Type 0
NamesMapping mappings mode = mode.mapping < mappings

mode_of : (mappings number : ℕ) (left : List Bool) → OfValue (NamesMapping mappings) (mode_at mappings number left)
unfolding mode_at
mode_of mappings number left =
    let Q = NamesMapping mappings in
    then_of (setup_field 1 left) _ Any Q (any_of (setup_field 1 left)) (λ flag left1 any1.
    then_of (zero_at 16 (Bad causes.ModeWindow number) left1) _ Any Q (any_of (zero_at 16 (Bad causes.ModeWindow number) left1)) (λ w left2 any2.
    then_of (zero_at 16 (Bad causes.ModeTransform number) left2) _ Any Q (any_of (zero_at 16 (Bad causes.ModeTransform number) left2)) (λ t left3 any3.
    then_of (number_below_at 8 mappings (Bad causes.ModeMapping number) left3) _ (λ m. m < mappings) Q (below_of 8 mappings (Bad causes.ModeMapping number) left3) (λ m left4 lt. lt))))

modes_of : (mappings : ℕ) (left : List Bool) → OfValue (All (NamesMapping mappings)) (modes_at mappings left)
unfolding modes_at
modes_of mappings left =
    then_of (count_at 6 left) _ Any (All (NamesMapping mappings)) (any_of (count_at 6 left)) (λ count mid any.
    each_of (mode_at mappings) (NamesMapping mappings) (mode_of mappings) (range_with_len 0 count) mid)

-- the mappings and the modes of a setup
pub record HasMappings (channels : ℕ) (setup : SetupFields) : Type 0 where
  pub mappings : All (IsMapping channels (length setup.floors) (length setup.residues)) setup.mappings
  pub modes : All (NamesMapping (length setup.mappings)) setup.modes

setup_value : (channels : ℕ) (left : List Bool) → OfValue (HasMappings channels) (setup_at channels left)
unfolding setup_at
setup_value channels left =
    let Q = HasMappings channels in
    then_of (relabel start_fault (start_at 5) left) _ Any Q (any_of (relabel start_fault (start_at 5) left)) (λ s left1 any1.
    then_of (books_at left1) _ Any Q (any_of (books_at left1)) (λ books left2 any2.
    then_of (times_at left2) _ Any Q (any_of (times_at left2)) (λ t left3 any3.
    then_of (floors_at (length books) left3) _ Any Q (any_of (floors_at (length books) left3)) (λ floors left4 any4.
    then_of (residues_at books left4) _ Any Q (any_of (residues_at books left4)) (λ residues left5 any5.
    then_of (mappings_at channels (length floors) (length residues) left5) _ (All (IsMapping channels (length floors) (length residues))) Q (mappings_of channels (length floors) (length residues) left5) (λ mappings left6 are.
    then_of (modes_at (length mappings) left6) _ (All (NamesMapping (length mappings))) Q (modes_of (length mappings) left6) (λ modes left7 name.
    then_of (framing_at left7) _ Any Q (any_of (framing_at left7)) (λ f left8 any8.
    record { mappings = are; modes = name }))))))))

pub setup_has : (channels : ℕ) (bytes : List ℕ) (setup : SetupFields) → setup_of channels bytes ≡ Ok setup → HasMappings channels setup
setup_has channels bytes setup e = value_of (setup_at channels (bits_of bytes)) (HasMappings channels) setup (setup_value channels (bits_of bytes)) e
