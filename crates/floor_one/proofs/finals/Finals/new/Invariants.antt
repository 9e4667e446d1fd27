use Rattle.std.proofs.Common.{◌≡◌, ℕ, ◌+◌, ◌<◌, ◌≤◌, ◌^◌, length, map, unsigned_abs}
use Rattle.std.specs.List.{All}
use Rattle.model_setup.specs.declared.floor.Final.{Final}
use Rattle.model_setup.specs.FloorCurve.{values_up_to, is_flagged, final_of}
use Rattle.floor_one.proofs.finals.Finals.new.Given as goal

abbrev pub invariant-loop-i : goal.invariant-loop-i
invariant-loop-i l = record {
  count : length l.finals.items ≡ l.i + 2;
  values : map (λ (f : Final). f.value) l.finals.items ≡ values_up_to l.range l.points l.values (l.i + 2);
  flags : (k : ℕ) → k < l.i + 2 → (final_of l.finals.items k).flagged ≡ is_flagged l.points l.values (l.i + 2) k;
  small : All (λ (f : Final). unsigned_abs f.value ≤ 2 ^ 24) l.finals.items;
}
