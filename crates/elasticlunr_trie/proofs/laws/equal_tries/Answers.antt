use Rattle.elasticlunr_trie.specs.EqualTables.{tables_Decides}
use Rattle.elasticlunr_trie.proofs.laws.equal_tries.Goals as goal

pub returns : goal.returns
returns c = tables_Decides
