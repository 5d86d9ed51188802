use Rattle.std.proofs.Common.{subst}
use Rattle.std.specs.Str.{chars}
use Rattle.elasticlunr_trie_nodes.specs.Table.{RemovesToken}
use Rattle.elasticlunr_trie_nodes.specs.Trie.{table_of, RemovesPosting}
use Rattle.elasticlunr_trie_nodes.proofs.Settled.{settled_parents, settled_paths}
use Rattle.elasticlunr_trie.proofs.Removing.{removed_trie, removed}
use Rattle.elasticlunr_trie.proofs.TokenCache.{ends_kept}
use Rattle.elasticlunr_trie.proofs.inverted_index.InvertedIndex.remove_token.Goals as goal

pub invariant_of-self : goal.invariant_of-self
invariant_of-self c =
    let removes = subst (λ es. RemovesPosting es c.self.inside.names c.self.inside.nodes.items
    c.remove_posting.new.nodes.items (chars c.args.token.now) c.args.doc_ref.now) c.deref.ensures.value
    c.remove_posting.ensures.removes in (
      record {
        trie = removed_trie c.self.inside.root.items c.self.inside.nodes.items c.self.invariant.0.trie
            c.self.inside.names c.remove_posting.new.nodes.items (chars c.args.token.now) c.args.doc_ref.now removes;
        parents = settled_parents c.self.inside.root.items c.self.inside.nodes.items c.self.invariant.0.trie
            c.remove_posting.new.nodes.items removes.shape c.self.invariant.0.parents;
        names_are = c.self.invariant.0.names_are;
        listed = c.remove_posting.ensures.listed;
      },
      ends_kept _ _ c.self.inside.ends (settled_paths c.self.inside.root.items c.self.inside.nodes.items
          c.self.invariant.0.trie c.remove_posting.new.nodes.items removes.shape) c.self.invariant.1,
    )

pub returns : goal.returns
returns c =
    let removes = subst (λ es. RemovesPosting es c.self.inside.names c.self.inside.nodes.items
    c.remove_posting.new.nodes.items (chars c.args.token.now) c.args.doc_ref.now) c.deref.ensures.value
    c.remove_posting.ensures.removes in
    subst (λ T. RemovesToken T (table_of c.self.inside.root.items c.remove_posting.new.nodes.items c.self.inside.names)
    (chars c.args.token.now) c.args.doc_ref.now) c.self.view_is
    (removed c.self.inside.root.items c.self.inside.nodes.items c.self.invariant.0.trie c.self.inside.names
    c.remove_posting.new.nodes.items (chars c.args.token.now) c.args.doc_ref.now removes)
