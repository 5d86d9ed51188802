use Rattle.std.proofs.Common.{map, sym, ap, ◌∙◌, ◌++◌}
use Rattle.std.proofs.lemmas.List.{append-nil, drop_all}
use Rattle.elasticlunr_trie_nodes.specs.Starts.{told}
use Rattle.elasticlunr_trie_nodes.specs.Table.{told_tokens}
use Rattle.elasticlunr_trie_nodes.specs.Trie.{step_of}
use Rattle.elasticlunr_trie.proofs.Starts.{pushed, none_yet}
use Rattle.elasticlunr_trie.proofs.inverted_index.starts.begun.Goals as goal

pub loop-token-init : goal.loop-token-init
loop-token-init c = none_yet (step_of c.args.root.now c.args.nodes.now) c.in_ok-starts.starts.items c.args.tokens.now
    c.in_ok-starts.ensures.items

pub loop-token-preserved : goal.loop-token-preserved
loop-token-preserved c =
    pushed (step_of c.args.root.now c.args.nodes.now) c.loop-token.starts.items c.push-in-loop-token.new.self.items
    c.begin-start.result c.args.tokens.now c.loop-token.token-index _ c.loop-token-test.true
    c.in_ok-push.ensures.items c.begin-start.ensures.start c.begin-start.ensures.told c.loop-token.invariant

pub returns-clause-starts : goal.returns-clause-starts
returns-clause-starts c = c.loop-token.invariant.0

pub returns-clause-told : goal.returns-clause-told
returns-clause-told c =
    sym (ap (λ rest. map told c.loop-token.starts.items ++ told_tokens rest)
    (drop_all c.loop-token.token-index c.args.tokens.now c.loop-token-test.false)
    ∙ append-nil (map told c.loop-token.starts.items))
    ∙ c.loop-token.invariant.1
