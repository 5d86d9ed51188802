use Rattle.elasticlunr_trie.proofs.Changes.{known_after_new}
use Rattle.elasticlunr_trie.proofs.laws.known_after_changes.Goals as goal

pub returns : goal.returns
returns c changes T is s = known_after_new changes T is s
