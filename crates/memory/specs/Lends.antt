-- What a sequence ends as, where its items were lent for writing.
use Rattle.std.specs.Prelude.{List, length}
use Rattle.std.specs.List.{refill}
use Rattle.std.specs.Borrow.{Lends, Fml, RattleType, MutBor, Array}
use Rattle.memory.specs.contracts.list.Sequence.{the_row}

-- once the borrow ends, the items are those that it shows last, as many as before
abbrev pub LendsItems : (T : RattleType) → MutBor (List T.Denot) → MutBor (List T.Denot) → Fml
LendsItems T s r = Lends (the_row T) (Array T 0) s r (refill (length s.now) s.now)
