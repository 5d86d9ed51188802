use Rattle.std.proofs.Common.{take}
use Rattle.serde_json.specs.View.{members_view}
use Rattle.elasticlunr_trie.specs.Finished.{HasChildren, KeepsOtherValues}
use Rattle.elasticlunr_trie.proofs.inverted_index.value.put_children.Given as goal

-- the children so far
abbrev pub invariant-loop-child : goal.invariant-loop-child
invariant-loop-child l =
    record {
      put : HasChildren (take l.child-index l.children) l.fn.finished (members_view l.members.entries);
      kept : KeepsOtherValues (take l.child-index l.children) l.fn.finished l.finished;
    }
