use Rattle.elasticlunr_state.proofs.Removing.{IsTakenUpTo}
use Rattle.elasticlunr_state.proofs.contents.IndexContents.remove_document.Given as goal

abbrev pub invariant-loop-trie : goal.invariant-loop-trie
invariant-loop-trie l = IsTakenUpTo l.doc_ref l.trie-index l.fn.self.tries.items l.trie-items
