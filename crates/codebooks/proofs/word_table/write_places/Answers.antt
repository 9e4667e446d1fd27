use Rattle.std.proofs.Common.{◌≡◌, refl, arith}
use Rattle.std.proofs.Math.ListN.{length-set}
use Rattle.codebooks.proofs.TurnedNumbers.{place_below, place_claimed, places_set}
use Rattle.codebooks.proofs.word_table.write_places.Goals as goal

pub bounds-places-first : goal.bounds-places-first
bounds-places-first c =
    let count = c.loop-i.invariant.count in
    rw count (place_below c.args.word.now c.args.width c.from-len.result c.reverse_bits-first.result c.loop-i.i c.requires.placed c.from-len.ensures c.if-len-width.false c.requires.few c.reverse_bits-first.ensures c.loop-i-test.true)

pub loop-i-preserved : goal.loop-i-preserved
loop-i-preserved c =
    let w = c.args.word.now in
    let first = c.reverse_bits-first.result in
    let len = c.from-len.result in
    let is_len : len ≡ w.len = c.from-len.ensures in
    let short = c.if-len-width.false in
    let few = c.requires.few in
    let below = place_below w c.args.width len first c.loop-i.i c.requires.placed is_len short few c.reverse_bits-first.ensures c.loop-i-test.true in
    let claimed = place_claimed w len first c.loop-i.i c.requires.placed is_len (omega arith) c.reverse_bits-first.ensures in
    record {
      count = rw length-set c.loop-i.invariant.count;
      places = λ words among before. places_set words c.args.width _ c.loop-i.places _ (c.loop-i.invariant.places words among before) (rw c.loop-i.invariant.count below) (λ some. record {
        word = w;
        among = among;
        claimed = claimed;
        short = omega arith;
        entry_is = refl;
        len_is = refl;
      });
    }
