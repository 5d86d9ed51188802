use Rattle.std.proofs.Common.{ap, ◌∙◌, sym, ◌++◌}
use Rattle.elasticlunr_json.proofs.Rows.{five}
use Rattle.elasticlunr_trie.proofs.Printing.{no_postings_tokens}
use Rattle.elasticlunr_trie.proofs.inverted_index.write.write_no_postings.Goals as goal

pub returns : goal.returns
returns g c names =
    let written = g.W.Tokens.written c.args.out.now in
    five written _ _ _ _ _ _ _ _ _ _ c.in_ok-token.ensures c.in_ok-number.ensures c.in_ok-token-2.ensures
    c.in_ok-token-3.ensures c.in_ok-token-4.ensures
    ∙ ap (λ ts. written ++ ts) (sym (no_postings_tokens names))
