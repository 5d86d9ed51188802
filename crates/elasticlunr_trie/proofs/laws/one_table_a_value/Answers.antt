use Rattle.elasticlunr_trie.proofs.Unique.{one_table, closed}
use Rattle.elasticlunr_trie.proofs.laws.one_table_a_value.Goals as goal

pub returns : goal.returns
returns c T U v t u one two = one_table T U (closed T t) (closed U u) v one two
