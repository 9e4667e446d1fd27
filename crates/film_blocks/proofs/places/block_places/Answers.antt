use Rattle.std.proofs.Common.{ap, arith, length}
use Rattle.film_blocks.proofs.PlaceSteps.{places_go_on, places_end}
use Rattle.film_blocks.proofs.places.block_places.Goals as goal

pub loop-row-preserved : goal.loop-row-preserved
loop-row-preserved c =
    let split = c.in-Some.ensures.steps in
    record {
      places = places_go_on c.loop-row.place c.loop-row.row-iterator c.in-Some.row c.next.new.self c.loop-row.places.items c.push_place.new.places.items _ split c.in_ok-push_place.ensures c.loop-row.invariant.places;
      place = omega (arith, ap length split, c.loop-row.invariant.place);
    }

pub returns : goal.returns
returns c = places_end c.loop-row.place c.loop-row.row-iterator c.loop-row.places.items _ c.in-None.ensures.steps.0 c.loop-row.invariant.places
