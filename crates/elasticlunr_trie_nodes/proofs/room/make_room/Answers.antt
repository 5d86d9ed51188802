use Rattle.std.proofs.Common.{IsTrue, sym, subst}
use Rattle.elasticlunr_trie_nodes.specs.Nodes.{has}
use Rattle.elasticlunr_trie_nodes.proofs.Unseen.{kept_index, kept_table, same_trie}
use Rattle.elasticlunr_trie_nodes.proofs.room.make_room.Goals as goal

pub returns-clause-index : goal.returns-clause-index
returns-clause-index c root index =
    kept_index root c.args.nodes.now c.args.names.now c.args.references.now.items index c.args.doc_ref.now _
    c.in_ok-number.ensures.names _ _ (same_trie root c.args.nodes.now) c.utf8.doc_ref _
    (λ n k h. subst (λ list. IsTrue (has list k)) (sym (c.reserve_list.ensures.same n)) h)

pub returns-clause-table : goal.returns-clause-table
returns-clause-table c root index =
    kept_table root c.args.nodes.now c.args.names.now c.args.references.now.items index c.args.doc_ref.now _
    c.in_ok-number.ensures.names _ _ (same_trie root c.args.nodes.now)
