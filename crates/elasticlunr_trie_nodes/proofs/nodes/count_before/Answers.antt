use Rattle.std.proofs.Common.{◌<◌, ◌+◌, length, refl, sym, ap, subst}
use Rattle.std.proofs.lemmas.List.{get_or_read_under}
use Rattle.elasticlunr_trie_nodes.proofs.Counted.{Counted, count_step}
use Rattle.elasticlunr_trie_nodes.proofs.nodes.count_before.Goals as goal

pub loop-child-preserved : goal.loop-child-preserved
loop-child-preserved c =
    let all = c.args.children.now in
    let i = c.loop-child.child-index in
    let item = get_or_read_under all i (length all) c.child-item.result (0, 0) c.child-item.is c.loop-child-test.true
    refl in
    let key = ap (λ e. e.0) item in
    subst (λ n. Counted all c.args.c (i + 1) (c.loop-child.count + n)) (sym c.from-count.ensures)
    (count_step all c.args.c i c.loop-child.count c.is_before.result c.loop-child-test.true c.requires
    (λ h. subst (λ k. k < c.args.c) key (c.is_before.ensures.0 h))
    (λ low. c.is_before.ensures.1 (subst (λ k. k < c.args.c) (sym key) low)) c.loop-child.invariant)
