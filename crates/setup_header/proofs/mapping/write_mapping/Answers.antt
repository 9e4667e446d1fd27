use Rattle.std.proofs.Common.{◌≡◌, ◌≤◌, ◌+◌, ◌^◌, length, OnOk, subst, sym, arith}
use Rattle.model_setup.specs.SetupPacket.{Mapping}
use Rattle.model_writing.specs.SetupWriting.{mapping_fields}
use Rattle.setup_fields.specs.Puts.{ArePut, HavePlaces}
use Rattle.setup_fields.proofs.Puts.{on_ok}
use Rattle.setup_header.proofs.Written.{flagged_small, mapping_places, mapping_put}
use Rattle.setup_fields.proofs.Fronts.{front_then, on_err}
use Rattle.setup_header.proofs.mapping.write_mapping.Goals as goal

pub overflow_cast-len : goal.overflow_cast-len
overflow_cast-len c =
    let s = c.mapping.inside in
    let m : Mapping = record { couplings = s.couplings.items; mux = s.mux.items; submaps = s.submaps.items } in
    let have = mapping_places m (subst (λ (mapping : Mapping). HavePlaces (mapping_fields mapping)) (sym c.mapping.view_is) c.requires.fits) in
    let few : length s.submaps.items ≤ 1 + 2 ^ 4 = flagged_small 4 1 (length s.submaps.items) have.submap_count in
    omega (arith, c.len.ensures, s.submaps.ok.0)

pub put_flagged_count-requires-clause-fits : goal.put_flagged_count-requires-clause-fits
put_flagged_count-requires-clause-fits c =
    let s = c.mapping.inside in
    let m : Mapping = record { couplings = s.couplings.items; mux = s.mux.items; submaps = s.submaps.items } in
    let have = mapping_places m (subst (λ (mapping : Mapping). HavePlaces (mapping_fields mapping)) (sym c.mapping.view_is) c.requires.fits) in
    let long : c.len.result ≡ length s.submaps.items = omega (arith, c.len.ensures, s.submaps.ok.0) in
    rw long have.submap_count

pub overflow_cast-len-2 : goal.overflow_cast-len-2
overflow_cast-len-2 c =
    let s = c.mapping.inside in
    let m : Mapping = record { couplings = s.couplings.items; mux = s.mux.items; submaps = s.submaps.items } in
    let have = mapping_places m (subst (λ (mapping : Mapping). HavePlaces (mapping_fields mapping)) (sym c.mapping.view_is) c.requires.fits) in
    let few : length s.couplings.items ≤ 0 + 2 ^ 8 = flagged_small 8 0 (length s.couplings.items) have.coupling_count in
    omega (arith, c.len-2.ensures, s.couplings.ok.0)

pub put_flagged_count-requires-2-clause-fits : goal.put_flagged_count-requires-2-clause-fits
put_flagged_count-requires-2-clause-fits c =
    let s = c.mapping.inside in
    let m : Mapping = record { couplings = s.couplings.items; mux = s.mux.items; submaps = s.submaps.items } in
    let have = mapping_places m (subst (λ (mapping : Mapping). HavePlaces (mapping_fields mapping)) (sym c.mapping.view_is) c.requires.fits) in
    let long : c.len-2.result ≡ length s.couplings.items = omega (arith, c.len-2.ensures, s.couplings.ok.0) in
    rw long have.coupling_count

pub write_each_coupling-requires : goal.write_each_coupling-requires
write_each_coupling-requires c =
    let s = c.mapping.inside in
    let m : Mapping = record { couplings = s.couplings.items; mux = s.mux.items; submaps = s.submaps.items } in
    let have = mapping_places m (subst (λ (mapping : Mapping). HavePlaces (mapping_fields mapping)) (sym c.mapping.view_is) c.requires.fits) in
    let long : c.len-3.result ≡ length s.mux.items = omega (arith, c.len-3.ensures, s.mux.ok.0) in
    rw (long, c.deref.ensures.value) have.couplings

pub write_mux-requires : goal.write_mux-requires
write_mux-requires c =
    let s = c.mapping.inside in
    let m : Mapping = record { couplings = s.couplings.items; mux = s.mux.items; submaps = s.submaps.items } in
    let have = mapping_places m (subst (λ (mapping : Mapping). HavePlaces (mapping_fields mapping)) (sym c.mapping.view_is) c.requires.fits) in
    let long : c.len-4.result ≡ length s.submaps.items = omega (arith, c.len-4.ensures, s.submaps.ok.0) in
    rw (long, c.deref-2.ensures.value) have.mux

pub write_each_submap-requires : goal.write_each_submap-requires
write_each_submap-requires c =
    let s = c.mapping.inside in
    let m : Mapping = record { couplings = s.couplings.items; mux = s.mux.items; submaps = s.submaps.items } in
    let have = mapping_places m (subst (λ (mapping : Mapping). HavePlaces (mapping_fields mapping)) (sym c.mapping.view_is) c.requires.fits) in
    rw c.deref-3.ensures.value have.submaps

pub returns-clause-put : goal.returns-clause-put
returns-clause-put c =
    let s = c.mapping.inside in
    let m : Mapping = record { couplings = s.couplings.items; mux = s.mux.items; submaps = s.submaps.items } in
    let submaps : c.len.result ≡ length s.submaps.items = omega (arith, c.len.ensures, s.submaps.ok.0) in
    let couplings : c.len-2.result ≡ length s.couplings.items = omega (arith, c.len-2.ensures, s.couplings.ok.0) in
    let channels : c.len-3.result ≡ length s.mux.items = omega (arith, c.len-3.ensures, s.mux.ok.0) in
    let mux : c.len-4.result ≡ length s.submaps.items = omega (arith, c.len-4.ensures, s.submaps.ok.0) in
    subst (λ (mapping : Mapping). OnOk c.write_each_submap.result (ArePut c.args.out.now c.write_each_submap.new.out (mapping_fields mapping))) c.mapping.view_is
    (on_ok c.write_each_submap.result (rw c.deref-3.ensures.value at c.write_each_submap.ensures.put) (λ last.
    mapping_put m c.in_ok-put_number.ensures.put (rw submaps at c.in_ok-put_flagged_count.ensures.put) (rw couplings at c.in_ok-put_flagged_count-2.ensures.put)
    (rw (channels, c.deref.ensures.value) at c.in_ok-write_each_coupling.ensures.put) c.in_ok-put_number-2.ensures.put (rw (mux, c.deref-2.ensures.value) at c.in_ok-write_mux.ensures.put) last))

pub returns-clause-kept : goal.returns-clause-kept
returns-clause-kept c = on_err c.write_each_submap.result c.write_each_submap.ensures.kept (λ last. front_then c.in_ok-put_number.ensures.put (front_then c.in_ok-put_flagged_count.ensures.put (front_then c.in_ok-put_flagged_count-2.ensures.put (front_then c.in_ok-write_each_coupling.ensures.put (front_then c.in_ok-put_number-2.ensures.put (front_then c.in_ok-write_mux.ensures.put last))))))
