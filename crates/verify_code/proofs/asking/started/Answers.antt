use Rattle.std.proofs.Common.{Bool, leb, rules}
use Rattle.std.proofs.lemmas.List.Sorted.{IsPartitionPoint-from_clause, IsPartitionedBy-leb}
use Rattle.verify_code.specs.declared.guards.Guard.{Guard}
use Rattle.verify_code.specs.Guards.{start_of}
use Rattle.verify_code.proofs.asking.started.Goals as goal

pub returns-clause-point : goal.returns-clause-point
returns-clause-point c =
    let test : Guard → Bool = λ g. leb g.row.start c.args.pc in
    IsPartitionPoint-from_clause test c.args.guards.now c.partition_point.result c.partition_point.ensures.partitioned
    (IsPartitionedBy-leb start_of c.args.guards.now c.args.pc c.requires) (λ a r f called. search rules)
