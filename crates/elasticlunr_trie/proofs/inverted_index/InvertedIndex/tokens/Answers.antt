use Rattle.std.proofs.Common.{◌≡◌, ◌↔◌, Some, None, IsTrue, sym, ap, subst, ◌∙◌}
use Rattle.std.specs.List.Sorted.{IsStrictlySortedBy}
use Rattle.std.specs.Str.{chars}
use Rattle.elasticlunr_error.specs.Text.{is_listed, text_cmp, texts_of}
use Rattle.elasticlunr_trie_nodes.specs.Trie.{step_of, table_of, walk}
use Rattle.elasticlunr_trie_nodes.specs.declared.nodes.Place.TheVariants.{Root, At}
use Rattle.elasticlunr_trie.specs.Tokens.{IsTokenFrom}
use Rattle.elasticlunr_trie.specs.Visits.{HasVisits}
use Rattle.elasticlunr_trie.proofs.TokenBytes.{bytes_rise}
use Rattle.elasticlunr_trie.proofs.Tokens.{none_rise, tokens_at, tokens_none, tokens_root}
use Rattle.elasticlunr_trie.proofs.Visiting.{if_ok}
use Rattle.elasticlunr_trie.proofs.Visits.{at_rise, has_visits, root_rise}
use Rattle.elasticlunr_trie.proofs.inverted_index.InvertedIndex.tokens.Goals as goal

pub tokens_below-requires : goal.tokens_below-requires
tokens_below-requires c = subst HasVisits (sym c.deref-in-Some-Root-2.ensures.value)
    (has_visits c.self.inside.root.items c.self.inside.nodes.items c.self.invariant.0.trie)

pub tokens_from-requires : goal.tokens_from-requires
tokens_from-requires c = subst HasVisits (sym c.deref-in-Some-At.ensures.value)
    (has_visits c.self.inside.root.items c.self.inside.nodes.items c.self.invariant.0.trie)

pub returns-in-Some-Root-clause-order : goal.returns-in-Some-Root-clause-order
returns-in-Some-Root-clause-order c =
    let t = chars c.args.prefix.now in
    let found = rw (c.deref-in-Some-Root.ensures.value, c.deref-in-Some-Root-2.ensures.value) at c.tokens_below.ensures
    in
    if_ok c.tokens_below.result found (λ v is. subst (IsStrictlySortedBy text_cmp) (sym is)
    (root_rise c.self.inside.root.items c.self.inside.nodes.items c.self.invariant.0.trie t))

pub returns-in-Some-Root-clause-bytes : goal.returns-in-Some-Root-clause-bytes
returns-in-Some-Root-clause-bytes c =
    let t = chars c.args.prefix.now in
    let found = rw (c.deref-in-Some-Root.ensures.value, c.deref-in-Some-Root-2.ensures.value) at c.tokens_below.ensures
    in
    if_ok c.tokens_below.result found (λ v is. bytes_rise v.items
    (subst (IsStrictlySortedBy text_cmp) (sym is) (root_rise c.self.inside.root.items c.self.inside.nodes.items
    c.self.invariant.0.trie t)))

pub returns-in-Some-Root-clause-tokens : goal.returns-in-Some-Root-clause-tokens
returns-in-Some-Root-clause-tokens c =
    let t = chars c.args.prefix.now in
    let root = c.self.inside.root.items in
    let nodes = c.self.inside.nodes.items in
    let to : walk (step_of root nodes) Root t
    ≡ Some Root = (λ i. walk (step_of (sym c.deref.ensures.value i) (sym c.deref-2.ensures.value i)) Root t)
    ∙ sym c.find.ensures ∙ c.in-Some-Root.is ∙ ap Some c.in-Some-Root.field-0-is in
    let found = rw (c.deref-in-Some-Root.ensures.value, c.deref-in-Some-Root-2.ensures.value) at c.tokens_below.ensures
    in
    if_ok c.tokens_below.result found (λ v is u.
    subst (λ T. IsTrue (is_listed u (texts_of v.items)) ↔ IsTokenFrom T t u) c.self.view_is
    (subst (λ ts. IsTrue (is_listed u ts) ↔ IsTokenFrom (table_of root nodes c.self.inside.names) t u) (sym is)
    (tokens_root root nodes c.self.invariant.0.trie c.self.inside.names c.self.invariant.0.names_are
    c.self.invariant.0.listed.named t to u)))

pub returns-in-Some-At-clause-order : goal.returns-in-Some-At-clause-order
returns-in-Some-At-clause-order c =
    let t = chars c.args.prefix.now in
    let found = rw (c.deref-in-Some-At.ensures.value) at c.tokens_from.ensures in
    if_ok c.tokens_from.result found (λ v is. subst (IsStrictlySortedBy text_cmp) (sym is)
    (at_rise c.self.inside.root.items c.self.inside.nodes.items c.self.invariant.0.trie t c.in-Some-At.k))

pub returns-in-Some-At-clause-bytes : goal.returns-in-Some-At-clause-bytes
returns-in-Some-At-clause-bytes c =
    let t = chars c.args.prefix.now in
    let found = rw (c.deref-in-Some-At.ensures.value) at c.tokens_from.ensures in
    if_ok c.tokens_from.result found (λ v is. bytes_rise v.items
    (subst (IsStrictlySortedBy text_cmp) (sym is) (at_rise c.self.inside.root.items c.self.inside.nodes.items
    c.self.invariant.0.trie t c.in-Some-At.k)))

pub returns-in-Some-At-clause-tokens : goal.returns-in-Some-At-clause-tokens
returns-in-Some-At-clause-tokens c =
    let t = chars c.args.prefix.now in
    let root = c.self.inside.root.items in
    let nodes = c.self.inside.nodes.items in
    let to : walk (step_of root nodes) Root t
    ≡ Some (At c.in-Some-At.k) = (λ i. walk
    (step_of (sym c.deref.ensures.value i) (sym c.deref-2.ensures.value i)) Root t) ∙ sym c.find.ensures
    ∙ c.in-Some-At.is ∙ ap Some c.in-Some-At.field-0-is in
    let found = rw (c.deref-in-Some-At.ensures.value) at c.tokens_from.ensures in
    if_ok c.tokens_from.result found (λ v is u.
    subst (λ T. IsTrue (is_listed u (texts_of v.items)) ↔ IsTokenFrom T t u) c.self.view_is
    (subst (λ ts. IsTrue (is_listed u ts) ↔ IsTokenFrom (table_of root nodes c.self.inside.names) t u) (sym is)
    (tokens_at root nodes c.self.invariant.0.trie c.self.inside.names c.self.invariant.0.names_are
    c.self.invariant.0.listed.named t c.in-Some-At.k to u)))

pub returns-in-None-clause-order : goal.returns-in-None-clause-order
returns-in-None-clause-order c = subst (λ vs. IsStrictlySortedBy text_cmp (texts_of vs)) (sym c.new.ensures.items)
    none_rise

pub returns-in-None-clause-bytes : goal.returns-in-None-clause-bytes
returns-in-None-clause-bytes c = bytes_rise c.new.result.items
    (subst (λ vs. IsStrictlySortedBy text_cmp (texts_of vs)) (sym c.new.ensures.items) none_rise)

pub returns-in-None-clause-tokens : goal.returns-in-None-clause-tokens
returns-in-None-clause-tokens c u =
    let t = chars c.args.prefix.now in
    let root = c.self.inside.root.items in
    let nodes = c.self.inside.nodes.items in
    let to : walk (step_of root nodes) Root t
    ≡ None = (λ i. walk (step_of (sym c.deref.ensures.value i) (sym c.deref-2.ensures.value i)) Root t)
    ∙ sym c.find.ensures ∙ c.in-None.is in
    subst (λ T. IsTrue (is_listed u (texts_of c.new.result.items)) ↔ IsTokenFrom T t u) c.self.view_is
    (subst (λ vs. IsTrue (is_listed u (texts_of vs)) ↔ IsTokenFrom (table_of root nodes c.self.inside.names) t u)
    (sym c.new.ensures.items) (tokens_none root nodes c.self.invariant.0.trie c.self.inside.names
    c.self.invariant.0.names_are c.self.invariant.0.listed.named t to u))
