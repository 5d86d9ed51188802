use Rattle.std.proofs.Common.{subst, arith}
use Rattle.elasticlunr_trie_nodes.specs.Nodes.{ClearsNumber}
use Rattle.elasticlunr_trie_nodes.proofs.Removed.{loses_none, loses_step, loses_skip, loses_all}
use Rattle.elasticlunr_trie.proofs.inverted_index.remove.remove_number.Goals as goal
use Rattle.elasticlunr_trie.proofs.inverted_index.remove.remove_number.Goals.{then-at-len, else-at-len}

pub loop-i-init : goal.loop-i-init
loop-i-init c = loses_none c.args.nodes.now.items c.args.list.now.items c.args.number

pub loop-i-preserved : goal.loop-i-preserved
loop-i-preserved c =
    let same = c.get-at.ensures in
    elim c.if-at-len.branch [
      | then-at-len w ↦ rw w.nodes-is (loses_step _ _ _ _ _ c.loop-i.invariant _
          (subst (λ k. ClearsNumber c.loop-i.nodes.items w.clear_number.new.nodes.items k c.args.number) same
          w.clear_number.ensures))
      | else-at-len w ↦ rw w.nodes-is (loses_skip _ _ _ _ _ c.loop-i.invariant
          (omega (arith, same, w.if-at-len.false, c.len.ensures, c.loop-i.nodes.ok.0)))
    ]

pub returns : goal.returns
returns c = loses_all _ _ _ _ _ c.loop-i.invariant (omega (arith, c.loop-i-test.false, c.len-i-end.ensures)) c.requires
