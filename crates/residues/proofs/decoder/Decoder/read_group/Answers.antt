use Rattle.std.specs.Prelude.{is_some}
use Rattle.std.specs.List.{flat_map}
use Rattle.model_setup.specs.ResidueDecoding.{Part, each_wanted, words_of_group, group_partitions, group_steps}
use Rattle.residues.specs.Decoders.{step_of}
use Rattle.residues.proofs.Leads.{leads_on, leads_past}
use Rattle.residues.proofs.Steps.{step_kept}
use Rattle.residues.proofs.decoder.Decoder.read_group.Goals as goal

pub returns-in_err-read_words_in : goal.returns-in_err-read_words_in
unfolding group_steps
returns-in_err-read_words_in c =
    let d = c.args.self.now in
    let words = words_of_group d.wanted.now c.args.pass c.args.group in
    let parts = flat_map (λ partition. each_wanted d.wanted.now (Part c.args.pass partition)) (group_partitions d.partitions d.classwords c.args.group) in
    rw c.from_residual.ensures (leads_past (step_of d) d (step_kept d) words parts c.args.workspace.now c.read_words_in.new.workspace c.in_err-read_words_in.ensures)

pub returns : goal.returns
unfolding group_steps
returns c =
    let d = c.args.self.now in
    let words = words_of_group d.wanted.now c.args.pass c.args.group in
    let parts = flat_map (λ partition. each_wanted d.wanted.now (Part c.args.pass partition)) (group_partitions d.partitions d.classwords c.args.group) in
    leads_on (step_of d) d words parts c.args.workspace.now c.read_words_in.new.workspace c.read_partitions.new.workspace (is_some c.read_partitions.result) c.in_ok-read_words_in.ensures c.read_partitions.ensures
