use Rattle.std.proofs.Common.{◌+◌, ◌*◌, ap, ◌∙◌, refl, arith}
use Rattle.residues.specs.Layout.{run_places}
use Rattle.residues.proofs.ReadingPlaces.{spread_run, spread_within, spread_few, row_run, row_within}
use Rattle.residues.proofs.adding.run_of.Goals as goal

pub overflow_add-result : goal.overflow_add-result
overflow_add-result c =
    let a = c.args in
    omega (arith, spread_within a.kind a.first a.size a.dimensions a.reading c.requires.reading 0 c.in-Spread.is c.requires.some)

pub overflow_mul-result : goal.overflow_mul-result
overflow_mul-result c =
    let a = c.args in
    omega (arith, row_within a.kind a.first a.size a.dimensions a.reading c.requires.reading c.in-InRow.is c.requires.some)

pub overflow_add-result-in-InRow : goal.overflow_add-result-in-InRow
overflow_add-result-in-InRow c =
    let a = c.args in
    omega (arith, row_within a.kind a.first a.size a.dimensions a.reading c.requires.reading c.in-InRow.is c.requires.some)

pub overflow_mul-reading : goal.overflow_mul-reading
overflow_mul-reading c =
    let a = c.args in
    omega (arith, row_within a.kind a.first a.size a.dimensions a.reading c.requires.reading c.in-InRow.is c.requires.some)

pub overflow_sub-size : goal.overflow_sub-size
overflow_sub-size c =
    let a = c.args in
    omega (arith, row_within a.kind a.first a.size a.dimensions a.reading c.requires.reading c.in-InRow.is c.requires.some)

pub returns-in-Spread-clause-places : goal.returns-in-Spread-clause-places
returns-in-Spread-clause-places c =
    let a = c.args in
    spread_run a.kind a.first a.size a.dimensions a.reading c.requires.reading c.in-Spread.is

pub returns-in-Spread-clause-within : goal.returns-in-Spread-clause-within
returns-in-Spread-clause-within c = λ j k.
    let a = c.args in
    omega (arith, spread_within a.kind a.first a.size a.dimensions a.reading c.requires.reading j c.in-Spread.is k)

pub returns-in-InRow : goal.returns-in-InRow
returns-in-InRow c =
    let a = c.args in
    let w = row_within a.kind a.first a.size a.dimensions a.reading c.requires.reading c.in-InRow.is c.requires.some in
    record {
      places = ap (run_places (a.first + a.reading * a.dimensions) 1) c.min.ensures
          ∙ row_run a.kind a.first a.size a.dimensions a.reading c.requires.reading c.in-InRow.is;
      within = λ j k. omega arith;
      enough = omega arith;
      few = omega arith;
      some = omega arith;
      interleaved = λ e. refl;
    }

pub returns-in-Spread-clause-few : goal.returns-in-Spread-clause-few
returns-in-Spread-clause-few c =
    let a = c.args in
    spread_few a.kind a.first a.size a.dimensions a.reading c.requires.reading c.in-Spread.is
