use Rattle.std.proofs.Common.{Result, Ok, Err, OnErr, map, ap, subst, ◌∙◌}
use Rattle.std.proofs.lemmas.Result.{IfOk-from_err}
use Rattle.elasticlunr_trie_nodes.specs.Table.{AreChanged, additions}
use Rattle.elasticlunr_trie_nodes.specs.Trie.{table_of}
use Rattle.elasticlunr_trie_nodes.specs.Starts.{told}
use Rattle.elasticlunr_trie.proofs.TokenCache.{ends_kept}
use Rattle.elasticlunr_trie.proofs.inverted_index.InvertedIndex.add_tokens.Goals as goal

on_err : {T E : Type 0} (r : Result T E) (P : Type 0) → P → OnErr r P
on_err (Ok x) P p = tt
on_err (Err e) P p = p

-- the starts tell the tokens and their frequencies
pub returns-clause-ok : goal.returns-clause-ok
returns-clause-ok c =
    let after = table_of c.add_walked.new.root.items c.add_walked.new.nodes.items c.add_walked.new.names in
    let all_told = ap (map told) c.deref-3.ensures.value ∙ c.in_ok-starts.ensures.told in
    subst (λ ts. AreChanged (additions c.args.doc_ref.now ts) c.args.self.now after) all_told
    (subst (λ T. AreChanged (additions c.args.doc_ref.now (map told c.deref-3.result.now)) T after) c.self.view_is
    c.in_ok-add_walked.ensures.ok)

pub returns-in_err-starts-clause-ok : goal.returns-in_err-starts-clause-ok
returns-in_err-starts-clause-ok c = IfOk-from_err c.from_residual.result _ c.from_residual.ensures.0

pub returns-in_err-add_walked-clause-ok : goal.returns-in_err-add_walked-clause-ok
returns-in_err-add_walked-clause-ok c = IfOk-from_err c.from_residual-in_err-add_walked.result _
    c.from_residual-in_err-add_walked.ensures.0

-- nothing was changed
pub returns-in_err-starts-clause-err : goal.returns-in_err-starts-clause-err
returns-in_err-starts-clause-err c = on_err c.from_residual.result _ (0, c.self.view_is)

pub invariant_of-self-2 : goal.invariant_of-self-2
invariant_of-self-2 c = (
  c.in_ok-add_walked.ensures.index,
  rw c.replace-ends.ensures.value
      (ends_kept _ _ c.walked_tokens.new.ends c.in_ok-add_walked.ensures.paths
      (rw (c.deref.ensures.value, c.deref-2.ensures.value) at c.in_ok-starts.ensures.ends)),
)
