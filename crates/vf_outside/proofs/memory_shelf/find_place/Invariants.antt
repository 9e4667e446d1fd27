use Rattle.std.proofs.Common.{◌≡◌, ◌+◌, drop}
use Rattle.vf_outside.specs.Memory.{entries, place_of}
use Rattle.vf_outside.proofs.memory_shelf.find_place.Given as goal

abbrev pub invariant-loop-i : goal.invariant-loop-i
invariant-loop-i l = l.i + place_of (entries (drop l.i l.files)) l.name ≡ place_of (entries l.files) l.name
