use Rattle.std.proofs.Common.{◌≡◌, ◌++◌, length, OnOk, flat_map, subst, sym}
use Rattle.model_setup.specs.FloorSetup.{FloorSetup}
use Rattle.model_bits.specs.Writing.{in_bits, count_in_bits}
use Rattle.model_writing.specs.SetupWriting.{class_fields, floor_fields}
use Rattle.setup_fields.specs.Puts.{ArePut, HavePlaces}
use Rattle.setup_fields.proofs.Puts.{field_then, then_put, next_places, places_before, places_behind, on_ok}
use Rattle.floor_one.specs.Points.{point_fields}
use Rattle.setup_fields.proofs.Fronts.{front_then, on_err}
use Rattle.floor_one.proofs.floor.Floor.write.Goals as goal

pub put_bytes-requires-clause-fits : goal.put_bytes-requires-clause-fits
put_bytes-requires-clause-fits c =
    let s = c.self.inside in
    let have = subst (λ (floor : FloorSetup). HavePlaces (floor_fields floor)) (sym c.self.view_is) c.requires in
    rw c.deref.ensures.0 (places_before (flat_map (in_bits 4) s.partitions.items) (flat_map class_fields s.classes.items ++ (count_in_bits 2 s.multiplier ++ point_fields s.points)) (next_places have))

pub write_classes-requires : goal.write_classes-requires
write_classes-requires c =
    let s = c.self.inside in
    let have = subst (λ (floor : FloorSetup). HavePlaces (floor_fields floor)) (sym c.self.view_is) c.requires in
    let last = count_in_bits 2 s.multiplier ++ point_fields s.points in
    rw c.deref-2.ensures.0 (places_before (flat_map class_fields s.classes.items) last (places_behind (flat_map (in_bits 4) s.partitions.items) (flat_map class_fields s.classes.items ++ last) (next_places have)))

pub write-requires : goal.write-requires
write-requires c =
    let s = c.self.inside in
    let have = subst (λ (floor : FloorSetup). HavePlaces (floor_fields floor)) (sym c.self.view_is) c.requires in
    let last = count_in_bits 2 s.multiplier ++ point_fields s.points in
    next_places (places_behind (flat_map class_fields s.classes.items) last (places_behind (flat_map (in_bits 4) s.partitions.items) (flat_map class_fields s.classes.items ++ last) (next_places have)))

pub returns-clause-put : goal.returns-clause-put
returns-clause-put c =
    let s = c.self.inside in
    let last_fields = count_in_bits 2 s.multiplier ++ point_fields s.points in
    let long : c.len.result ≡ length s.partitions.items = c.len.ensures.value in
    let count = rw long at c.in_ok-put_number.ensures.put in
    let partitions = rw c.deref.ensures.0 at c.in_ok-put_bytes.ensures.put in
    let classes = rw c.deref-2.ensures.0 at c.in_ok-write_classes.ensures.put in
    let multiplier = rw c.from.ensures at c.in_ok-put_count.ensures.put in
    subst (λ (floor : FloorSetup). OnOk c.write.result (ArePut c.args.out.now c.write.new.out (floor_fields floor))) c.self.view_is (on_ok c.write.result c.write.ensures.put (λ last.
    field_then count (then_put (flat_map (in_bits 4) s.partitions.items) (flat_map class_fields s.classes.items ++ last_fields) partitions
    (then_put (flat_map class_fields s.classes.items) last_fields classes (field_then multiplier last)))))

pub returns-clause-kept : goal.returns-clause-kept
returns-clause-kept c = on_err c.write.result c.write.ensures.kept (λ last. front_then c.in_ok-put_number.ensures.put (front_then c.in_ok-put_bytes.ensures.put (front_then c.in_ok-write_classes.ensures.put (front_then c.in_ok-put_count.ensures.put last))))
