use Rattle.std.proofs.Common.{◌-◌, ◌<◌, ◌^◌, length, arith}
use Rattle.setup_fields.proofs.Puts.{first_place, next_places}
use Rattle.setup_header.proofs.mapping.write_mappings.Goals as goal

pub overflow_cast-mappings : goal.overflow_cast-mappings
overflow_cast-mappings c =
    let few : length c.args.mappings.now - 1 < 2 ^ 6 = first_place c.requires.fits in
    omega arith

pub put_count-requires-clause-fits : goal.put_count-requires-clause-fits
put_count-requires-clause-fits c = first_place c.requires.fits

pub write_each_mapping-requires-clause-fits : goal.write_each_mapping-requires-clause-fits
write_each_mapping-requires-clause-fits c = next_places c.requires.fits
