use Rattle.std.proofs.Common.{◌∙◌, ap, sym, subst, Ok}
use Rattle.model_synthesis.specs.Tables.{AreTables}
use Rattle.model_synthesis.specs.ConstantsFile.{tables_unless}
use Rattle.constants_file.proofs.Sections.{right_tables}
use Rattle.constants_file.proofs.constants.Constants.read.Goals as goal

pub returns-clause-read : goal.returns-clause-read
returns-clause-read c =
    c.in_ok-body.ensures.read
    ∙ (ap (tables_unless c.in_ok-body.body.now) c.in_ok-check_ranges.ensures
    ∙ ap Ok (sym c.in_ok-constants_in.ensures))

pub returns-clause-right : goal.returns-clause-right
returns-clause-right c =
    subst AreTables (sym c.in_ok-constants_in.ensures)
    (right_tables c.in_ok-body.body.now c.in_ok-body.ensures.size c.in_ok-check_ranges.ensures)
