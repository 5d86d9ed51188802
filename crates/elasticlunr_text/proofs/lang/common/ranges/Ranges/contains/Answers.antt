use Rattle.std.proofs.Common.{rules, sym, nat_lt}
use Rattle.std.proofs.lemmas.Bool.{ltb-false}
use Rattle.std.proofs.lemmas.List.Sorted.{IsPartitionPoint-from_clause}
use Rattle.elasticlunr_text.proofs.RangeLemmas.{in_ranges-partition, in_ranges-past, apart-IsPartitionedBy}
use Rattle.elasticlunr_text.proofs.lang.common.ranges.Ranges.contains.Goals as goal

pub returns-in-Some : goal.returns-in-Some
returns-in-Some c =
    let point = IsPartitionPoint-from_clause (λ r. nat_lt r.1 c.args.c) c.as_slice-ranges.result.now
    c.partition_point-at.result c.partition_point-at.ensures.partitioned
    (apart-IsPartitionedBy _ c.args.self.now.ranges.items c.args.c c.as_slice-ranges.ensures.value
    c.args.self.now.apart) (λ a r f' k. search rules) in
    sym (in_ranges-partition _ c.args.self.now.ranges.items c.partition_point-at.result c.args.c c.in-Some.range.now
    c.as_slice-ranges.ensures.value c.args.self.now.apart
    point c.in-Some.ensures.lookup.3.0 c.in-Some.ensures.lookup.3.1)

pub returns-in-None : goal.returns-in-None
returns-in-None c =
    let point = IsPartitionPoint-from_clause (λ r. nat_lt r.1 c.args.c) c.as_slice-ranges.result.now
    c.partition_point-at.result c.partition_point-at.ensures.partitioned
    (apart-IsPartitionedBy _ c.args.self.now.ranges.items c.args.c c.as_slice-ranges.ensures.value
    c.args.self.now.apart) (λ a r f' k. search rules) in
    sym (in_ranges-past _ c.args.self.now.ranges.items c.partition_point-at.result c.args.c
    c.as_slice-ranges.ensures.value point
    (ltb-false c.partition_point-at.result _ (sym c.in-None.ensures.lookup.0)))
