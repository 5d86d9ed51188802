use Rattle.serde_json.specs.View.{view}
use Rattle.elasticlunr_search.proofs.Whole.{trie_read}
use Rattle.elasticlunr_search.proofs.parts.trie_of.Goals as goal

pub returns-in-Ok-clause-ok : goal.returns-in-Ok-clause-ok
returns-in-Ok-clause-ok c = trie_read (view c.args.index.now) (view c.in-Some.value.now) c.args.name.now c.in-Ok.trie
    c.in-Some.ensures c.in-Ok.ensures.table c.in-Ok.ensures.ok
