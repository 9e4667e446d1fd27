use Rattle.std.proofs.Common.{◌-◌, ◌<◌, ◌^◌, length, arith}
use Rattle.setup_fields.proofs.Puts.{first_place, next_places}
use Rattle.setup_header.proofs.parts.write_residues.Goals as goal

pub overflow_cast-residues : goal.overflow_cast-residues
overflow_cast-residues c =
    let few : length c.args.residues.now - 1 < 2 ^ 6 = first_place c.requires in
    omega arith

pub put_count-requires-clause-fits : goal.put_count-requires-clause-fits
put_count-requires-clause-fits c = first_place c.requires

pub write_each_residue-requires : goal.write_each_residue-requires
write_each_residue-requires c = next_places c.requires
