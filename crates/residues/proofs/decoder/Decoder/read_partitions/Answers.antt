use Rattle.std.proofs.Common.{◌≡◌, ◌+◌, ◌-◌, ◌*◌, ◌<◌, ◌≤◌, ℕ, true, false, refl, subst, arith}
use Rattle.std.specs.List.{range_with_len, flat_map}
use Rattle.model_setup.specs.ResidueDecoding.{Part, each_wanted, group_size}
use Rattle.residues.specs.Decoders.{Leads, step_of}
use Rattle.residues.proofs.Leads.{leads_next, leads_ends}
use Rattle.residues.proofs.Steps.{step_kept}
use Rattle.residues.proofs.decoder.Decoder.read_partitions.Goals as goal

pub returns-in_err-read_partition : goal.returns-in_err-read_partition
returns-in_err-read_partition c =
    let d = c.args.self.now in
    let first = c.args.group * d.classwords in
    let size = group_size d.partitions d.classwords c.args.group in
    let i = c.loop-partition.partition in
    let part = λ (partition : ℕ). each_wanted d.wanted.now (Part c.args.pass partition) in
    let start = c.group_partitions-partitions.ensures.start in
    let end = c.group_partitions-partitions.ensures.end in
    let from : first ≤ i = omega arith in
    let lt : i - first < size = omega arith in
    rw c.from_residual.ensures (leads_ends (step_of d) d part first (i - first) i c.args.workspace.now c.loop-partition.workspace c.read_partition.new.workspace false (omega arith) c.loop-partition.invariant c.in_err-read_partition.ensures (step_kept d) size lt refl)

pub loop-partition-preserved : goal.loop-partition-preserved
loop-partition-preserved c =
    let d = c.args.self.now in
    let first = c.args.group * d.classwords in
    let i = c.loop-partition.partition in
    let part = λ (partition : ℕ). each_wanted d.wanted.now (Part c.args.pass partition) in
    let start = c.group_partitions-partitions.ensures.start in
    let from : first ≤ i = omega arith in
    let more : i - first + 1 ≡ i + 1 - first = omega arith in
    let old = c.args.workspace.now in
    let new = c.read_partition.new.workspace in
    subst (λ n. Leads d (flat_map part (range_with_len first n)) old new true) more
    (leads_next (step_of d) d part first (i - first) i old c.loop-partition.workspace new true (omega arith) c.loop-partition.invariant c.in_ok-read_partition.ensures)

pub returns : goal.returns
returns c =
    let d = c.args.self.now in
    let first = c.args.group * d.classwords in
    let size = group_size d.partitions d.classwords c.args.group in
    let i = c.loop-partition.partition in
    let part = λ (partition : ℕ). each_wanted d.wanted.now (Part c.args.pass partition) in
    let start = c.group_partitions-partitions.ensures.start in
    let end = c.group_partitions-partitions.ensures.end in
    let all : i - first ≡ size = omega arith in
    subst (λ n. Leads d (flat_map part (range_with_len first n)) c.args.workspace.now c.loop-partition.workspace true) all c.loop-partition.invariant
