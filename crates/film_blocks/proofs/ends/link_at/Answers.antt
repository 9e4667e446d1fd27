use Rattle.std.proofs.Common.{ℕ, leb, rules}
use Rattle.std.proofs.lemmas.List.Sorted.{IsPartitionPoint-from_clause, IsPartitionedBy-leb}
use Rattle.film_blocks.proofs.BlockLinks.{end_before}
use Rattle.film_blocks.proofs.ends.link_at.Goals as goal

pub returns-clause-ends : goal.returns-clause-ends
returns-clause-ends c =
    let ends = c.args.ends.now in
    let point = IsPartitionPoint-from_clause (λ (end : ℕ). leb end c.args.block) ends c.partition_point.result c.partition_point.ensures.partitioned (IsPartitionedBy-leb (λ (end : ℕ). end) ends c.args.block c.requires) (λ a r f called. search rules) in
    end_before c.args.block c.partition_point.result ends point
