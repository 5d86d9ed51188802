use Rattle.elasticlunr_json.proofs.Rows.{five}
use Rattle.elasticlunr_trie.proofs.inverted_index.write.write_posting.Goals as goal

pub returns : goal.returns
returns g c =
    five (g.W.Tokens.written c.args.out.now) _ _ _ _ _ _ _ _ _ _ c.in_ok-token.ensures c.in_ok-token-2.ensures
    c.in_ok-token-3.ensures c.in_ok-number.ensures c.in_ok-token-4.ensures
