use Rattle.std.proofs.Common.{rules, leb, sym, arith}
use Rattle.std.proofs.lemmas.List.Sorted.{IsPartitionPoint-from_clause, IsPartitionedBy-leb}
use Rattle.model_setup.specs.declared.book.Word.{Word}
use Rattle.codebooks.proofs.Looks.{bisect_missing, bisect_before}
use Rattle.codebooks.proofs.word_table.bisect.Goals as goal

abbrev none : Word
none = record { entry = 0; len = 0; start = 0 }

pub returns-then-count-eq0 : goal.returns-then-count-eq0
returns-then-count-eq0 c =
    let xs = c.args.words.now in
    let n = c.args.number in
    let p = IsPartitionPoint-from_clause (λ (w : Word). leb w.start n) xs c.partition_point-count.result c.partition_point-count.ensures.partitioned (IsPartitionedBy-leb (λ (w : Word). w.start) xs n c.requires.rising) (λ a r q k. search rules) in
    bisect_before xs n (rw c.if-count-eq0.true at p)

pub returns-else-has_number : goal.returns-else-has_number
returns-else-has_number c =
    let xs = c.args.words.now in
    let n = c.args.number in
    let p = IsPartitionPoint-from_clause (λ (w : Word). leb w.start n) xs c.partition_point-count.result c.partition_point-count.ensures.partitioned (IsPartitionedBy-leb (λ (w : Word). w.start) xs n c.requires.rising) (λ a r q k. search rules) in
    let b = c.partition_point-count.ensures.bound in
    bisect_missing xs n c.partition_point-count.result none c.requires.rising c.requires.apart p (omega arith) b (sym c.if-has_number.ensures)
