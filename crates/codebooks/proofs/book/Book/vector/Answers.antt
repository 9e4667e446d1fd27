use Rattle.std.proofs.Common.{length}
use Rattle.codebooks.proofs.FirstValues.{all_values}
use Rattle.codebooks.proofs.book.Book.vector.Goals as goal

pub returns-clause-found : goal.returns-clause-found
returns-clause-found c = rw (← all_values c.args.self.now c.args.bits.now.left (length c.args.out.now) c.requires.room) c.first_values.ensures.found
