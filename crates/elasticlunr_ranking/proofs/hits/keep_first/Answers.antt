use Rattle.std.proofs.Common.{◌≤◌, arith, heap_items, length}
use Rattle.elasticlunr_ranking.proofs.Keeping.{joins, not_kept, replaced_top}
use Rattle.elasticlunr_ranking.proofs.hits.keep_first.Goals as goal

pub returns-in_ok-push-clause-keeps : goal.returns-in_ok-push-clause-keeps
returns-in_ok-push-clause-keeps c =
    joins c.args.limit (heap_items c.args.kept.now) _ c.args.key (omega arith) c.in_ok-push.ensures.permutation

pub returns-in_ok-push-2-clause-keeps : goal.returns-in_ok-push-2-clause-keeps
returns-in_ok-push-2-clause-keeps c =
    let full : c.args.limit ≤ length (heap_items c.args.kept.now) = omega arith in
    let before = c.if-is_before_last.ensures in
    let out = c.pop-last.ensures in
    replaced_top c.args.limit (heap_items c.args.kept.now) c.args.key full c.pop-last.result _
    (heap_items c.pop-last.new.self) _ c.requires before.0 before.1 out.variant out.top out.permutation out.heap_order
    c.in_ok-push-2.ensures.permutation

pub returns-else-is_before_last-clause-keeps : goal.returns-else-is_before_last-clause-keeps
returns-else-is_before_last-clause-keeps c =
    not_kept c.args.limit (heap_items c.args.kept.now) c.args.key (omega arith) c.if-is_before_last.ensures
