use Rattle.std.proofs.Common.{ap}
use Rattle.std.specs.Option.{ok_or}
use Rattle.model_setup.specs.declared.book.BookFault.TheVariants.{Tree}
use Rattle.codebooks.proofs.Claims.{word_found, word_refused, spaces_after}
use Rattle.codebooks.proofs.words.add_word.Goals as goal

pub returns-in_default-clause-added : goal.returns-in_default-clause-added
returns-in_default-clause-added c = λ other. ap (λ o. ok_or o Tree) (word_refused c.args.words.now.items c.args.free.now c.args.entry c.args.len c.requires.small.1 c.requires.spaces c.in_default.ensures.none)

pub returns-clause-added : goal.returns-clause-added
returns-clause-added c = rw c.in_ok-push.ensures.items (ap (λ o. ok_or o Tree) (word_found c.args.words.now.items c.args.free.now c.claim.new.free c.args.entry c.args.len c.in-Some.start c.requires.small.1 c.requires.spaces c.in-Some.ensures.claimed))

pub returns-clause-spaces : goal.returns-clause-spaces
returns-clause-spaces c = rw c.in_ok-push.ensures.items (spaces_after c.args.words.now.items c.args.free.now c.claim.new.free c.args.entry c.args.len c.in-Some.start c.requires.small.0 c.requires.small.1 c.requires.spaces c.in-Some.ensures.claimed)
