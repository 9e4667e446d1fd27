-- Mappings and modes.
use Rattle.std.proofs.Common.{◌≡◌, ℕ, ◌-◌, ◌++◌, length, flat_map, refl, sym, ap, ◌==◌, nat_lt, not, arith}
use Rattle.std.proofs.lemmas.List.{length-replicate, append_assoc}
use Rattle.model_setup.specs.declared.setup.SetupCause.TheVariants as causes
use Rattle.model_setup.specs.declared.setup.SetupFault.{SetupFault}
use Rattle.model_setup.specs.declared.setup.SetupFault.TheVariants.{Bad}
use Rattle.model_setup.specs.SetupCauses.{end_fault}
use Rattle.model_setup.specs.BookReading.{ilog}
use Rattle.std.specs.List.{All}
use Rattle.model_bits.specs.Writing.{HasPlace, WasRead, Rewrites, in_bits, count_in_bits, flagged_count}
use Rattle.model_setup.specs.SetupPacket.{Mapping, Mode, coupling_at, couplings_at, mux_at, submap_at, mapping_at, mappings_at, mode_at, modes_at}
use Rattle.model_writing.specs.SetupWriting.{coupling_fields, mux_fields, submap_fields, mapping_fields, mode_fields, counted_fields}
use Rattle.model_writing.proofs.Kept.{Kept, kept_back, kept_fits, kept, bind, next, skip, last, ends, done, tested, chosen, number, in_row, of_numbers, are_number}
use Rattle.model_writing.proofs.Numbers.{flag_is, below_kept, zero_kept, count_kept, flagged_kept}

coupling_kept : (channels : ℕ) (fault : SetupFault) → Kept (coupling_at channels fault) (coupling_fields channels) (λ c. Unit {0})
unfolding coupling_at
coupling_kept channels fault =
    let one = below_kept (ilog (channels - 1)) channels fault in
    kept (bind one (λ magnitude h. bind one (λ angle k. tested (not (angle == magnitude)) fault (λ apart. done (refl, tt)))))

couplings_kept : (channels : ℕ) (fault : SetupFault) → Kept (couplings_at channels fault) (λ cs. flagged_count 8 0 (length cs) ++ flat_map (coupling_fields channels) cs) (λ cs. Unit {0})
unfolding couplings_at
couplings_kept channels fault =
    kept (bind (flagged_kept 8 0) (λ count h. ends (in_row count (coupling_kept channels fault)) (λ cs facts. (ap (λ n. flagged_count 8 0 n ++ flat_map (coupling_fields channels) cs) (sym facts.0), tt))))

mux_kept : (channels submaps : ℕ) (fault : SetupFault) → Kept (mux_at channels submaps fault) (mux_fields submaps) (λ mux. length mux ≡ channels)
unfolding mux_at
mux_kept channels submaps fault =
    kept (chosen (nat_lt 1 submaps)
    (λ several. ends (in_row channels (below_kept 4 submaps fault)) (λ mux facts. (rw several refl, facts.0)))
    (λ one. done (rw one refl, length-replicate channels 0)))

submap_kept : (floors residues number : ℕ) → Kept (submap_at floors residues number) submap_fields (λ s. Unit {0})
unfolding submap_at
submap_kept floors residues item =
    kept (skip 0 (are_number end_fault 8 0 (omega arith)) (bind (below_kept 8 floors (Bad causes.MappingFloor item)) (λ floor h.
    last _ (below_kept 8 residues (Bad causes.MappingResidue item)) (λ residue k. (refl, tt)))))

mapping_kept : (channels floors residues number : ℕ) → Kept (mapping_at channels floors residues number) mapping_fields (λ m. Unit {0})
unfolding mapping_at
mapping_kept channels floors residues item =
    kept (next (zero_kept 16 (Bad causes.MappingKind item)) (λ kind u.
    bind (flagged_kept 4 1) (λ count u.
    bind (couplings_kept channels (Bad causes.MappingCoupling item)) (λ couplings u.
    next (zero_kept 2 (Bad causes.MappingReserved item)) (λ reserved u.
    bind (mux_kept channels count (Bad causes.MappingMux item)) (λ mux long.
    last _ (in_row count (submap_kept floors residues item)) (λ submaps facts. (rw (facts.0, long, append_assoc) refl, tt))))))))

mode_kept : (mappings number : ℕ) → Kept (mode_at mappings number) mode_fields (λ mode. Unit {0})
unfolding mode_at
mode_kept mappings item =
    kept (bind (number end_fault 1) (λ f small.
    next (zero_kept 16 (Bad causes.ModeWindow item)) (λ window u.
    next (zero_kept 16 (Bad causes.ModeTransform item)) (λ transform u.
    last _ (below_kept 8 mappings (Bad causes.ModeMapping item)) (λ m h. (ap (λ fields. fields ++ (in_bits 16 0 ++ (in_bits 16 0 ++ in_bits 8 m))) (flag_is f small), tt))))))

pub mappings_kept : (channels floors residues : ℕ) → Kept (mappings_at channels floors residues) (counted_fields 6 mapping_fields) (λ ms. Unit {0})
unfolding mappings_at
mappings_kept channels floors residues =
    kept (bind (count_kept 6) (λ count u. ends (of_numbers 0 count (mapping_kept channels floors residues)) (λ ms facts. (ap (λ n. count_in_bits 6 n ++ flat_map mapping_fields ms) (sym facts.0), tt))))

pub modes_kept : (mappings : ℕ) → Kept (modes_at mappings) (counted_fields 6 mode_fields) (λ ms. Unit {0})
unfolding modes_at
modes_kept mappings =
    kept (bind (count_kept 6) (λ count u. ends (of_numbers 0 count (mode_kept mappings)) (λ ms facts. (ap (λ n. count_in_bits 6 n ++ flat_map mode_fields ms) (sym facts.0), tt))))

pub mapping_back : (channels floors residues number : ℕ) → Rewrites (mapping_at channels floors residues number) mapping_fields
mapping_back channels floors residues item = kept_back (mapping_kept channels floors residues item)

pub mapping_fits : (channels floors residues number : ℕ) (mapping : Mapping) → WasRead (mapping_at channels floors residues number) mapping → All HasPlace (mapping_fields mapping)
mapping_fits channels floors residues item = kept_fits (mapping_kept channels floors residues item)

pub mode_back : (mappings number : ℕ) → Rewrites (mode_at mappings number) mode_fields
mode_back mappings item = kept_back (mode_kept mappings item)

pub mode_fits : (mappings number : ℕ) (mode : Mode) → WasRead (mode_at mappings number) mode → All HasPlace (mode_fields mode)
mode_fits mappings item = kept_fits (mode_kept mappings item)
