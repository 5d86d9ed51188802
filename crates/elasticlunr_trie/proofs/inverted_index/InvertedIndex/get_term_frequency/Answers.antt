use Rattle.std.proofs.Common.{ap, ◌∙◌, unwrap_or}
use Rattle.std.specs.Str.{chars}
use Rattle.elasticlunr_trie_nodes.specs.Table.{posting}
use Rattle.elasticlunr_trie.proofs.inverted_index.InvertedIndex.get_term_frequency.Goals as goal

pub returns : goal.returns
returns c =
    let found = rw (c.deref.ensures.value, c.deref-2.ensures.value) at c.find_frequency.ensures in
    c.unwrap_or.ensures ∙ ap (λ o. unwrap_or o 0) found
    ∙ ap (λ T. unwrap_or (posting T (chars c.args.token.now) c.args.doc_ref.now) 0) c.self.view_is
