use Rattle.std.proofs.lemmas.List.Elements.{All-set}
use Rattle.elasticlunr_trie.specs.TokenCache.{IsEnd}
use Rattle.elasticlunr_trie.proofs.inverted_index.ends.put_end.Goals as goal

pub returns : goal.returns
returns c step are is = All-set (IsEnd step) _ _ _ is are
