use Rattle.std.proofs.Common.{◌≡◌, ◌∙◌, ap, sym, Err, true, false, arith}
use Rattle.std.proofs.lemmas.Bool.{lt-ltb, le-ltb}
use Rattle.model_synthesis.specs.declared.constants.ConstantsFault.TheVariants.{Range}
use Rattle.model_synthesis.specs.ConstantsFile.{number_at, number_count, greatest_at, is_past, tables_unless}
use Rattle.constants_file.proofs.Finding.{find_on, find_here, find_end}
use Rattle.constants_file.proofs.file.check_ranges.Goals as goal

pub returns-then-value-greatest_at : goal.returns-then-value-greatest_at
returns-then-value-greatest_at c =
    let body = c.args.body.now in
    let index = c.loop-index.index in
    let past : is_past c.args.body.now c.loop-index.index ≡ true =
    lt-ltb (greatest_at c.loop-index.index) (number_at c.args.body.now c.loop-index.index) (omega arith) in
    ap (tables_unless body) (sym c.loop-index.invariant ∙ find_here (is_past body) index (number_count body) c.loop-index-test.true past)
    ∙ ap (λ value. Err (Range index value)) (sym c.number_at-value.ensures)

pub loop-index-preserved : goal.loop-index-preserved
loop-index-preserved c =
    let body = c.args.body.now in
    let within : is_past c.args.body.now c.loop-index.index ≡ false =
    le-ltb (greatest_at c.loop-index.index) (number_at c.args.body.now c.loop-index.index) (omega arith) in
    find_on (is_past body) c.loop-index.index (number_count body) c.loop-index-test.true within
    ∙ c.loop-index.invariant

pub returns : goal.returns
returns c =
    sym c.loop-index.invariant
    ∙ find_end (is_past c.args.body.now) c.loop-index.index (number_count c.args.body.now) c.loop-index-test.false
