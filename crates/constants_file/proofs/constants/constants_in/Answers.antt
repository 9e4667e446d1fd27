use Rattle.std.proofs.Common.{◌∙◌, ap, sym}
use Rattle.model_synthesis.specs.Tables.{turns_of}
use Rattle.constants_file.proofs.Sections.{right_tables}
use Rattle.constants_file.proofs.constants.constants_in.Goals as goal

pub lay_out_turns-requires-clause-count : goal.lay_out_turns-requires-clause-count
lay_out_turns-requires-clause-count c =
    rw (c.deref.ensures.value, c.in_ok-cosines.ensures) (right_tables c.args.body.now c.requires.size c.requires.right).cosine_count

pub lay_out_turns-requires-clause-numbers : goal.lay_out_turns-requires-clause-numbers
lay_out_turns-requires-clause-numbers c i =
    rw (c.deref.ensures.value, c.in_ok-cosines.ensures) ((right_tables c.args.body.now c.requires.size c.requires.right).cosines i)

pub new-requires : goal.new-requires
new-requires c =
    let right = right_tables c.args.body.now c.requires.size c.requires.right in
    rw c.in_ok-cosines.ensures (record { count = right.cosine_count; small = right.cosines })

pub invariant_of-result : goal.invariant_of-result
invariant_of-result c = (
  rw (c.in_ok-decibels.ensures, c.in_ok-slopes.ensures, c.in_ok-transforms.ensures, c.in_ok-cosines.ensures)
      (right_tables c.args.body.now c.requires.size c.requires.right),
  c.in_ok-turns.ensures ∙ ap turns_of (c.deref.ensures.value ∙ sym c.in_ok-transforms.ensures),
)
