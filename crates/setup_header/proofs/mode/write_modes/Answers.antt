use Rattle.std.proofs.Common.{◌-◌, ◌<◌, ◌^◌, length, arith}
use Rattle.setup_fields.proofs.Puts.{first_place, next_places}
use Rattle.setup_header.proofs.mode.write_modes.Goals as goal

pub overflow_cast-modes : goal.overflow_cast-modes
overflow_cast-modes c =
    let few : length c.args.modes.now - 1 < 2 ^ 6 = first_place c.requires in
    omega arith

pub put_count-requires-clause-fits : goal.put_count-requires-clause-fits
put_count-requires-clause-fits c = first_place c.requires

pub write_each_mode-requires : goal.write_each_mode-requires
write_each_mode-requires c = next_places c.requires
