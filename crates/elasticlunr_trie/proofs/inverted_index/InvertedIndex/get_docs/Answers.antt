use Rattle.std.proofs.Common.{sym, ap, ◌∙◌}
use Rattle.std.specs.FinMap.{get}
use Rattle.std.specs.Str.{chars}
use Rattle.elasticlunr_trie_nodes.specs.Trie.{look}
use Rattle.elasticlunr_trie_nodes.proofs.Tables.{get_table}
use Rattle.elasticlunr_trie.proofs.inverted_index.InvertedIndex.get_docs.Goals as goal

pub returns-clause-ok : goal.returns-clause-ok
returns-clause-ok c =
    c.in_ok-docs.ensures ∙ (λ i. look (c.deref.ensures.value i) (c.deref-2.ensures.value i) c.self.inside.names
    (chars c.args.token.now))
    ∙ sym (get_table c.self.inside.root.items c.self.inside.nodes.items c.self.invariant.0.trie c.self.inside.names
    (chars c.args.token.now)) ∙ ap (λ T. get T (chars c.args.token.now)) c.self.view_is
