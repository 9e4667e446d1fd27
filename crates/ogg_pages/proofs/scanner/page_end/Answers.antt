use Rattle.std.proofs.Common.{refl, arith}
use Rattle.ogg_pages.proofs.Search.{stands_whole}
use Rattle.ogg_pages.proofs.scanner.page_end.Goals as goal

pub returns : goal.returns
returns c = stands_whole c.args.bytes.now c.args.place c.len.result _ c.args.page (λ k. omega (arith, c.type_inv.bytes k)) c.requires.within c.len.ensures refl c.requires.whole
