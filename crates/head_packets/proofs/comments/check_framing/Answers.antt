use Rattle.head_packets.proofs.Texts.{framing_end, framing_set, framing_clear}
use Rattle.head_packets.proofs.comments.check_framing.Goals as goal

pub returns-in-None : goal.returns-in-None
returns-in-None c = rw (← c.new.ensures.left) (framing_end c.new.result.left c.in-None.ensures.ended.0)

pub returns-in-Some-eq1 : goal.returns-in-Some-eq1
returns-in-Some-eq1 c = rw (← c.new.ensures.left) (framing_set c.new.result.left _ _ c.in-Some-eq1.ensures.taken c.in-Some-eq1.field-0-test)

pub returns-in-Some : goal.returns-in-Some
returns-in-Some c = rw (← c.new.ensures.left) (framing_clear c.new.result.left _ _ c.in-Some.ensures.taken c.in-Some.field-0-test.1)
