use Rattle.std.proofs.Common.{ap, ◌∙◌, is_some}
use Rattle.std.specs.Str.{chars}
use Rattle.elasticlunr_trie_nodes.specs.Table.{posting}
use Rattle.elasticlunr_trie.proofs.inverted_index.InvertedIndex.has_posting.Goals as goal

pub returns : goal.returns
returns c =
    let found = rw (c.deref.ensures.value, c.deref-2.ensures.value) at c.find_frequency.ensures in
    c.is_some.ensures ∙ ap is_some found ∙ ap (λ T. is_some (posting T (chars c.args.token.now) c.args.doc_ref.now))
    c.self.view_is
