use Rattle.std.proofs.Common.{sym, ap, ◌∙◌}
use Rattle.std.specs.FinMap as map
use Rattle.std.specs.Str.{chars}
use Rattle.elasticlunr_trie_nodes.specs.Table.{postings}
use Rattle.elasticlunr_trie_nodes.proofs.Named.{no_df, len_named}
use Rattle.elasticlunr_trie.proofs.inverted_index.InvertedIndex.get_doc_frequency.Goals as goal

pub returns-in-Some : goal.returns-in-Some
returns-in-Some c =
    let found = rw (c.deref.ensures.value, c.deref-2.ensures.value) at c.in-Some.ensures in
    c.len.ensures ∙ sym (len_named c.self.inside.names c.in-Some.postings.now
    (found.numbered c.self.inside.names c.self.invariant.0.listed.named) c.self.invariant.0.names_are)
    ∙ ap map.len (sym (found.postings c.self.inside.names)) ∙ ap (λ T. map.len (postings T (chars c.args.token.now)))
    c.self.view_is

pub returns-in-None : goal.returns-in-None
returns-in-None c =
    let found = rw (c.deref.ensures.value, c.deref-2.ensures.value) at c.in-None.ensures in
    sym (no_df c.self.inside.names) ∙ ap map.len (sym (found.postings c.self.inside.names))
    ∙ ap (λ T. map.len (postings T (chars c.args.token.now))) c.self.view_is
