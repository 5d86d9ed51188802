use Rattle.std.proofs.Common.{◌||◌, is_some, map, sym, ap, subst, ◌∙◌}
use Rattle.std.specs.List.Sorted.{IsStrictlySortedBy}
use Rattle.std.specs.Str.{chars}
use Rattle.elasticlunr_error.specs.Text.{is_listed, text_cmp}
use Rattle.elasticlunr_trie_nodes.specs.Table.{posting}
use Rattle.elasticlunr_trie.proofs.inverted_index.InvertedIndex.references.Goals as goal

pub returns-clause-order : goal.returns-clause-order
returns-clause-order c = subst (IsStrictlySortedBy text_cmp) (sym c.in_ok-references.ensures.texts)
    c.in_ok-references.ensures.order

pub returns-clause-listed : goal.returns-clause-listed
returns-clause-listed c r =
    let same = ap (is_listed r) c.in_ok-references.ensures.texts ∙ c.in_ok-put_references.ensures.listed r
    ∙ ap (λ ks. is_listed r (map (λ k. k.now) ks) || is_some (posting c.args.self.now (chars c.args.token.now) r))
    c.new-found.ensures.empty in
    (λ h. sym same ∙ h, λ h. same ∙ h)
