use Rattle.std.proofs.Common.{ℕ, ◌≡◌, ◌≤◌, ◌+◌, [], length, arith, sym, ap, subst, ◌∙◌}
use Rattle.std.specs.Prelude.{IfOk}
use Rattle.std.proofs.lemmas.Result.{IfOk-from_err}
use Rattle.std.proofs.lemmas.List.{length-append}
use Rattle.serde_json.specs.View.{view}
use Rattle.elasticlunr_trie_nodes.specs.Names.{AreNames, AreRanks}
use Rattle.elasticlunr_trie_nodes.specs.Nodes.{AreAllNumbered}
use Rattle.elasticlunr_trie_nodes.specs.Trie.{table_of}
use Rattle.elasticlunr_trie.specs.Tree.{IsTree}
use Rattle.elasticlunr_trie.proofs.inverted_index.value.tree_value.Goals as goal

-- an index that the loop stops at
all_of : (n i m : ℕ) → n ≡ i → m ≤ i → i ≤ m → n ≡ m
all_of n i m is least most = omega arith

pub returns-in_err-ranks : goal.returns-in_err-ranks
returns-in_err-ranks c = IfOk-from_err c.from_residual.result _ c.from_residual.ensures.0

pub returns-in_err-texts : goal.returns-in_err-texts
returns-in_err-texts c = IfOk-from_err c.from_residual-in_err-texts.result _ c.from_residual-in_err-texts.ensures.0

pub returns-in_err-finished : goal.returns-in_err-finished
returns-in_err-finished c = IfOk-from_err c.from_residual-in_err-finished.result _
    c.from_residual-in_err-finished.ensures.0

pub returns-in_err-push : goal.returns-in_err-push
returns-in_err-push c = IfOk-from_err c.from_residual-in_err-push.result _ c.from_residual-in_err-push.ensures.0

pub loop-init : goal.loop-init
loop-init c = ap length c.in_ok-finished.ensures.items

pub loop-preserved : goal.loop-preserved
loop-preserved c = ap length c.in_ok-push.ensures.items ∙ length-append c.loop.finished.items _
    ∙ ap (λ n. n + 1) c.loop.invariant

pub root_value-requires-clause-names : goal.root_value-requires-clause-names
root_value-requires-clause-names c = subst AreNames (sym c.in_ok-texts.ensures) c.requires.names

pub root_value-requires-clause-ranks : goal.root_value-requires-clause-ranks
root_value-requires-clause-ranks c = subst (AreRanks c.in_ok-texts.texts) (sym c.deref.ensures.value)
    (subst (λ ns. AreRanks ns c.in_ok-ranks.ranks.items) (sym c.in_ok-texts.ensures) c.in_ok-ranks.ensures)

pub root_value-requires-clause-numbered : goal.root_value-requires-clause-numbered
root_value-requires-clause-numbered c = subst (λ ns. AreAllNumbered ns c.args.nodes.now) (sym c.in_ok-texts.ensures)
    c.requires.numbered

pub root_value-requires-clause-one_each : goal.root_value-requires-clause-one_each
root_value-requires-clause-one_each c = all_of (length c.deref_mut.result.now) c.loop.index (length c.args.nodes.now)
    (ap length c.deref_mut.ensures.value ∙ c.loop.invariant) c.loop-test.false c.loop.auto.index-end

pub returns : goal.returns
returns c = subst (λ ns. IfOk c.root_value.result (λ v. IsTree (table_of c.args.root.now c.args.nodes.now ns) []
    (view v))) c.in_ok-texts.ensures c.root_value.ensures
