use Rattle.std.proofs.Common.{◌||◌, is_some, sym, ap, ◌∙◌}
use Rattle.std.specs.FinMap.{get, get-empty}
use Rattle.std.specs.Str.{chars}
use Rattle.elasticlunr_error.specs.Text.{is_listed, text_cmp}
use Rattle.elasticlunr_trie_nodes.specs.Table.{postings}
use Rattle.elasticlunr_trie_nodes.proofs.Named.{no_names, pairs_are, pairs_named}
use Rattle.elasticlunr_trie.specs.References.{texts_in}
use Rattle.elasticlunr_trie.proofs.References.{or_none, on_err}
use Rattle.std.proofs.Common.{rules}
use Rattle.elasticlunr_trie.proofs.inverted_index.InvertedIndex.put_references.Goals as goal

pub put_names-requires-clause-postings : goal.put_names-requires-clause-postings
put_names-requires-clause-postings c =
    let found = rw (c.deref.ensures.value, c.deref-2.ensures.value) at c.in-Some.ensures in
    let names = c.self.inside.names in
    pairs_are names c.in-Some.postings.now (found.numbered names c.self.invariant.0.listed.named)

pub returns-in_ok-put_names-in-Some-clause-listed : goal.returns-in_ok-put_names-in-Some-clause-listed
returns-in_ok-put_names-in-Some-clause-listed c r =
    let found = rw (c.deref.ensures.value, c.deref-2.ensures.value) at c.in-Some.ensures in
    let names = c.self.inside.names in
    let P = c.in-Some.postings.now in
    c.in_ok-put_names-in-Some.ensures.listed r
    ∙ ap (λ Q. is_listed r (texts_in c.args.found.now) || is_some (get Q r))
    (sym (pairs_named names P (found.numbered names c.self.invariant.0.listed.named)
    c.self.invariant.0.names_are) ∙ sym (found.postings names)
    ∙ ap (λ T. postings T (chars c.args.token.now)) c.self.view_is)

pub returns-in_err-put_names-in-Some-clause-err : goal.returns-in_err-put_names-in-Some-clause-err
returns-in_err-put_names-in-Some-clause-err c =
    let found = rw (c.deref.ensures.value, c.deref-2.ensures.value) at c.in-Some.ensures in
    let names = c.self.inside.names in
    let P = c.in-Some.postings.now in
    on_err c.from_residual.result _ (λ r h.
    sym (ap (λ Q. is_listed r (texts_in c.args.found.now) || is_some (get Q r))
    (sym (pairs_named names P (found.numbered names c.self.invariant.0.listed.named)
    c.self.invariant.0.names_are) ∙ sym (found.postings names)
    ∙ ap (λ T. postings T (chars c.args.token.now)) c.self.view_is)) ∙ c.in_err-put_names-in-Some.ensures.err r h)

pub returns-in-None-clause-listed : goal.returns-in-None-clause-listed
returns-in-None-clause-listed c r =
    let found = rw (c.deref.ensures.value, c.deref-2.ensures.value) at c.in-None.ensures in
    let names = c.self.inside.names in
    let none = sym (no_names names) ∙ sym (found.postings names)
    ∙ ap (λ T. postings T (chars c.args.token.now)) c.self.view_is in
    or_none (is_listed r (texts_in c.args.found.now))
    ∙ ap (λ b. is_listed r (texts_in c.args.found.now) || b) (sym (ap is_some (get-empty text_cmp r))
    ∙ ap (λ Q. is_some (get Q r)) none)

pub returns-in_ok-put_names-in-Some-clause-keeps : goal.returns-in_ok-put_names-in-Some-clause-keeps
returns-in_ok-put_names-in-Some-clause-keeps c = search rules

pub returns-in-None-clause-keeps : goal.returns-in-None-clause-keeps
returns-in-None-clause-keeps c = search rules
