-- `step_parts::seek` meets its contract.
use Rattle.std.proofs.Common.{rules, tests, ltb}
use Rattle.std.proofs.lemmas.List.Sorted.{IsPartitionPoint-from_clause, IsPartitionedBy-ltb}
use Rattle.step_parts.proofs.Walked.{never_falls, sought_by}
use Rattle.step_parts.proofs.atoms.seek.Goals as goal

pub returns : goal.returns
returns c =
    let part = c.args.part.now in
    sought_by part c.args.atom _ c.partition_point.ensures.bound
    (IsPartitionPoint-from_clause (λ y. ltb y c.args.atom) part _ c.partition_point.ensures.partitioned (IsPartitionedBy-ltb (λ y. y) part c.args.atom (never_falls part c.requires)) (λ a r f k. search (rules, tests)))
