use Rattle.std.proofs.Common.{ap, ◌∙◌}
use Rattle.elasticlunr_trie_nodes.specs.Table.{knows, posting}
use Rattle.elasticlunr_trie_nodes.proofs.Settled.{settled_parents, settled_paths, lost_trie, lost_known, lost_gone}
use Rattle.elasticlunr_trie_nodes.proofs.Settled.{lost_others}
use Rattle.elasticlunr_trie.proofs.TokenCache.{ends_kept}
use Rattle.elasticlunr_trie.proofs.inverted_index.InvertedIndex.remove_doc.Goals as goal

pub invariant_of-self : goal.invariant_of-self
invariant_of-self c = (
  record {
    trie = lost_trie c.self.inside.root.items c.self.inside.nodes.items c.self.invariant.0.trie c.self.inside.names _
        c.args.doc_ref.now c.remove_postings.ensures.loses;
    parents = settled_parents c.self.inside.root.items c.self.inside.nodes.items c.self.invariant.0.trie _
        c.remove_postings.ensures.loses.shape c.self.invariant.0.parents;
    names_are = c.self.invariant.0.names_are;
    listed = c.remove_postings.ensures.listed;
  },
  ends_kept _ _ c.self.inside.ends (settled_paths c.self.inside.root.items c.self.inside.nodes.items
      c.self.invariant.0.trie _ c.remove_postings.ensures.loses.shape) c.self.invariant.1,
)

pub returns-clause-known : goal.returns-clause-known
returns-clause-known c t =
    lost_known c.self.inside.root.items c.self.inside.nodes.items c.self.invariant.0.trie c.self.inside.names _
    c.args.doc_ref.now c.remove_postings.ensures.loses t
    ∙ ap (λ T. knows T t) c.self.view_is

pub returns-clause-gone : goal.returns-clause-gone
returns-clause-gone c t = lost_gone c.self.inside.root.items c.self.inside.nodes.items c.self.invariant.0.trie
    c.self.inside.names _ c.args.doc_ref.now c.remove_postings.ensures.loses t

pub returns-clause-others : goal.returns-clause-others
returns-clause-others c t r other =
    lost_others c.self.inside.root.items c.self.inside.nodes.items c.self.invariant.0.trie c.self.inside.names _
    c.args.doc_ref.now c.remove_postings.ensures.loses t r other
    ∙ ap (λ T. posting T t r) c.self.view_is
