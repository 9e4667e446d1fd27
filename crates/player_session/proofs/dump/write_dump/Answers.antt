use Rattle.std.proofs.Common.{refl}
use Rattle.player_session.proofs.Puts.{frames_part}
use Rattle.player_session.proofs.dump.write_dump.Goals as goal

pub returns-in-Err-Memory : goal.returns-in-Err-Memory
returns-in-Err-Memory g c =
    let memory = rw c.in-Err-Memory.field-0-is at c.in-Err-Memory.ensures.memory in
    rw c.write_memory.ensures.status (c.write_memory.ensures.notes, frames_part _ _ _ (memory refl))
