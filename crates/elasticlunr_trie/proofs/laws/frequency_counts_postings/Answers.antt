use Rattle.elasticlunr_trie.proofs.Changes.{counted}
use Rattle.elasticlunr_trie.proofs.laws.frequency_counts_postings.Goals as goal

pub returns : goal.returns
returns c T t = counted T t
