use Rattle.std.proofs.Common.{chars}
use Rattle.std.proofs.lemmas.Str.{IsUtf8-nil}
use Rattle.elasticlunr_trie_nodes.specs.Trie.{step_of}
use Rattle.elasticlunr_trie.proofs.TokenCache.{all_known}
use Rattle.elasticlunr_trie.proofs.inverted_index.ends.begin.Goals as goal

pub returns-in-Some-clause-start : goal.returns-in-Some-clause-start
returns-in-Some-clause-start c = record {
  known = chars c.args.token.now;
  split = all_known c.args.token.now;
  leads = (rw c.in-Some.is at c.get.ensures) (step_of c.args.root.now c.args.nodes.now) c.requires;
  token = c.utf8.token;
  rest = IsUtf8-nil;
}
