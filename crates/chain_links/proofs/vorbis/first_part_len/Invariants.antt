use Rattle.std.proofs.Common.{◌≡◌, ◌+◌, ◌*◌, ◌≤◌, drop, sum}
use Rattle.model_ogg.specs.Streams.{first_part_len}
use Rattle.chain_links.proofs.vorbis.first_part_len.Given as goal

abbrev pub invariant-loop-lace : goal.invariant-loop-lace
invariant-loop-lace l = record {
  value : l.len + first_part_len (drop l.lace-index l.laces) ≡ first_part_len l.laces;
  bound : l.len + sum (drop l.lace-index l.laces) ≡ sum l.laces;
  small : l.len ≤ 255 * l.lace-index;
}
