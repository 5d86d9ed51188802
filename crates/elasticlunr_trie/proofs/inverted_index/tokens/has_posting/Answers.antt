use Rattle.std.proofs.Common.{ℕ, sym, ap, ◌∙◌, length}
use Rattle.std.proofs.lemmas.Bool.{le-ltb}
use Rattle.std.specs.Ordering.{nat_cmp}
use Rattle.std.specs.FinMap.{len, len-empty}
use Rattle.std.specs.Prelude.{nat_lt}
use Rattle.elasticlunr_trie_nodes.specs.Nodes.{entries_of}
use Rattle.elasticlunr_trie_nodes.proofs.Places.{get_past}
use Rattle.elasticlunr_trie.proofs.inverted_index.tokens.has_posting.Goals as goal

pub returns-then-k-nodes : goal.returns-then-k-nodes
returns-then-k-nodes c =
    ap (nat_lt 0) c.len.ensures ∙ ap (λ P. nat_lt 0 (len P)) c.postings_at.ensures

pub returns-else-k-nodes : goal.returns-else-k-nodes
returns-else-k-nodes c =
    le-ltb c.args.k (length c.args.nodes.now) c.if-k-nodes.false
    ∙ sym (ap (λ o. nat_lt 0 (len (entries_of o))) (get_past c.args.nodes.now c.args.k c.if-k-nodes.false)
    ∙ ap (nat_lt 0) (len-empty nat_cmp ℕ))
