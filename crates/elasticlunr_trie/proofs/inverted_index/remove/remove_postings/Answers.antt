use Rattle.std.proofs.Common.{sym, ◌∙◌}
use Rattle.elasticlunr_trie_nodes.proofs.Removed.{loses_by_name}
use Rattle.elasticlunr_trie.proofs.inverted_index.remove.remove_postings.Goals as goal

pub returns-clause-loses : goal.returns-clause-loses
returns-clause-loses c = loses_by_name _ _ _ c.in-Some.number (sym c.number_of.ensures ∙ c.in-Some.is) _
    c.remove_number.ensures
