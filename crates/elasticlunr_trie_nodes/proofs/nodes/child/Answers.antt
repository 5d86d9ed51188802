use Rattle.std.proofs.Common.{Some, length, refl, sym, ap, ◌∙◌}
use Rattle.std.proofs.lemmas.List.{get_or_read_under}
use Rattle.elasticlunr_trie_nodes.proofs.Gap.{value_at_place, value_in_gap}
use Rattle.elasticlunr_trie_nodes.proofs.nodes.child.Goals as goal

-- the character is at its place
pub returns-in-Ok : goal.returns-in-Ok
returns-in-Ok c =
    let item = get_or_read_under c.args.children.now c.in-Ok.at (length c.args.children.now) c.index-children-at.result
    (0, 0) c.index-children-at.is c.in-Ok.ensures.found.in_range refl in
    ap Some (c.node.ensures ∙ ap (λ e. e.1) item) ∙ sym (value_at_place _ c.requires _ _ c.in-Ok.ensures.found)

-- the character is not there
pub returns-in-Err : goal.returns-in-Err
returns-in-Err c = sym (value_in_gap _ _ _ c.in-Err.ensures.absent)
