use Rattle.std.proofs.Common.{◌-◌, ◌<◌, ◌^◌, length, arith}
use Rattle.setup_fields.proofs.Puts.{first_place, next_places}
use Rattle.setup_header.proofs.parts.write_floors.Goals as goal

pub overflow_cast-floors : goal.overflow_cast-floors
overflow_cast-floors c =
    let few : length c.args.floors.now - 1 < 2 ^ 6 = first_place c.requires in
    omega arith

pub put_count-requires-clause-fits : goal.put_count-requires-clause-fits
put_count-requires-clause-fits c = first_place c.requires

pub write_each_floor-requires : goal.write_each_floor-requires
write_each_floor-requires c = next_places c.requires
