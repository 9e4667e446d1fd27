use Rattle.std.proofs.Common.{◌-◌, ◌∙◌, ◌++◌, [], ◌∷◌, ap, sym, arith}
use Rattle.model_synthesis.specs.ConstantsFile.{numbers_of, section}
use Rattle.constants_file.proofs.Sections.{section_more}
use Rattle.constants_file.proofs.file.read_section.Goals as goal

pub loop-index-preserved : goal.loop-index-preserved
loop-index-preserved c =
    let body = c.args.body.now in
    c.in_ok-push.ensures.items
    ∙ (ap (λ front. front ++ c.number_at.result ∷ []) c.loop-index.invariant
    ∙ (ap (λ n. section (numbers_of body) c.args.first (c.loop-index.index - c.args.first) ++ n ∷ []) c.number_at.ensures
    ∙ sym (section_more body c.args.first c.loop-index.index (omega arith) (omega arith))))
