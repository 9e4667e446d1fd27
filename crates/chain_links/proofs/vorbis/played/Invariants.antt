use Rattle.std.proofs.Common.{◌≡◌, drop}
use Rattle.model_ogg.specs.Links.{played}
use Rattle.chain_links.proofs.vorbis.played.Given as goal

abbrev pub invariant-loop-page : goal.invariant-loop-page
invariant-loop-page l = played l.bytes (drop l.page-index l.link) ≡ played l.bytes l.link
