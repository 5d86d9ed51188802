use Rattle.std.proofs.Common.{Some, sym, ap, ◌∙◌}
use Rattle.elasticlunr_trie_nodes.proofs.Gap.{value_at_place, value_in_gap}
use Rattle.elasticlunr_trie_nodes.proofs.postings.value_of.Goals as goal

pub returns-in-Ok : goal.returns-in-Ok
returns-in-Ok c = ap (λ e. Some e.1) c.get.ensures ∙ sym (value_at_place _ c.requires _ _ c.in-Ok.ensures.found)

pub returns-in-Err : goal.returns-in-Err
returns-in-Err c = sym (value_in_gap _ _ _ c.in-Err.ensures.absent)
