use Rattle.std.proofs.Common.{sym, ap, ◌∙◌}
use Rattle.std.specs.FinMap.{entries}
use Rattle.std.specs.Str.{chars}
use Rattle.elasticlunr_trie_nodes.specs.Table.{postings}
use Rattle.elasticlunr_trie_nodes.proofs.Named.{no_entries, pairs_are, pairs_named}
use Rattle.elasticlunr_trie.specs.Tokens.{told_postings}
use Rattle.elasticlunr_trie.proofs.Visiting.{if_ok}
use Rattle.elasticlunr_trie.proofs.inverted_index.InvertedIndex.postings.Goals as goal

pub in_name_order-requires-clause-postings : goal.in_name_order-requires-clause-postings
in_name_order-requires-clause-postings c =
    let found = rw (c.deref.ensures.value, c.deref-2.ensures.value) at c.in-Some.ensures in
    let names = c.self.inside.names in
    pairs_are names c.in-Some.postings.now (found.numbered names c.self.invariant.0.listed.named)

pub returns-in-Some : goal.returns-in-Some
returns-in-Some c =
    let found = rw (c.deref.ensures.value, c.deref-2.ensures.value) at c.in-Some.ensures in
    let names = c.self.inside.names in
    let P = c.in-Some.postings.now in
    if_ok c.in_name_order.result c.in_name_order.ensures (λ v is.
    is ∙ ap entries (sym (pairs_named names P (found.numbered names c.self.invariant.0.listed.named)
    c.self.invariant.0.names_are) ∙ sym (found.postings names)
    ∙ ap (λ T. postings T (chars c.args.token.now)) c.self.view_is))

pub returns-in-None : goal.returns-in-None
returns-in-None c =
    let found = rw (c.deref.ensures.value, c.deref-2.ensures.value) at c.in-None.ensures in
    let names = c.self.inside.names in
    ap told_postings c.new.ensures.items ∙ sym (no_entries names)
    ∙ ap entries (sym (found.postings names) ∙ ap (λ T. postings T (chars c.args.token.now)) c.self.view_is)
