use Rattle.std.proofs.Common.{sym, ap, ◌∙◌, is_some}
use Rattle.std.specs.Str.{chars}
use Rattle.elasticlunr_trie_nodes.specs.Table.{knows}
use Rattle.elasticlunr_trie_nodes.proofs.Tables.{knows_walk}
use Rattle.elasticlunr_trie.proofs.inverted_index.InvertedIndex.has_token.Goals as goal

pub returns : goal.returns
returns c =
    let found = rw (c.deref.ensures.value, c.deref-2.ensures.value) at c.find.ensures in
    c.is_some.ensures ∙ ap is_some found ∙ sym (knows_walk c.self.inside.root.items c.self.inside.nodes.items
    c.self.invariant.0.trie c.self.inside.names (chars c.args.token.now))
    ∙ ap (λ T. knows T (chars c.args.token.now)) c.self.view_is
