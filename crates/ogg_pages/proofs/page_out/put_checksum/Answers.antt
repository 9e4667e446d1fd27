use Rattle.std.proofs.Common.{◌++◌, take, drop, ap, ◌∙◌}
use Rattle.std.specs.Int.{w32, to_le_bytes}
use Rattle.std.proofs.lemmas.List.{drop-drop}
use Rattle.model_ogg.specs.Checksum.{checksum_of}
use Rattle.ogg_pages.proofs.page_out.put_checksum.Goals as goal

pub returns : goal.returns
returns c =
    let before = c.args.page.now in
    ap (λ ys. take 22 before ++ (ys ++ drop 4 (drop 22 before))) (c.copy_from_slice.ensures.after ∙ c.to_le_bytes.ensures ∙ ap (to_le_bytes w32) c.checksum-sum.ensures)
    ∙ ap (λ zs. take 22 before ++ (to_le_bytes w32 (checksum_of before) ++ zs)) (drop-drop 4 22 before)
