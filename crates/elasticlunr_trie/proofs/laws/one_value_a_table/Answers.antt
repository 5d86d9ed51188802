use Rattle.elasticlunr_trie.proofs.OneValue.{one_value}
use Rattle.elasticlunr_trie.proofs.laws.one_value_a_table.Goals as goal

pub returns : goal.returns
returns c T v w one two = one_value T v w one two
