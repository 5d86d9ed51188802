use Rattle.elasticlunr_json.proofs.Refusals.{read_back}
use Rattle.elasticlunr_trie_nodes.specs.Table.{IsTable}
use Rattle.elasticlunr_trie.specs.Tree.{IsTrieValue}
use Rattle.elasticlunr_trie.proofs.Unique.{one_table, closed}
use Rattle.elasticlunr_trie.proofs.laws.trie_values_are_read_back.Goals as goal

pub returns : goal.returns
returns c T v answer table value ok err =
    read_back (λ U. IsTable U × IsTrieValue U v) _ T answer (λ U both. one_table U T (closed U both.0) (closed T table)
    v both.1 value) (λ none. none T table value) ok err
