use Rattle.std.proofs.Common.{map, ap, ◌∙◌}
use Rattle.elasticlunr_trie_nodes.specs.Starts.{told}
use Rattle.elasticlunr_trie_nodes.specs.Trie.{step_of}
use Rattle.elasticlunr_trie.proofs.Starts.{walked_on}
use Rattle.elasticlunr_trie.proofs.inverted_index.starts.walked_tokens.Goals as goal

pub loop-init : goal.loop-init
loop-init c = (c.in_ok-starts.ensures.starts, c.in_ok-starts.ensures.told)

pub loop-preserved : goal.loop-preserved
loop-preserved c = walked_on (step_of c.args.root.now c.args.nodes.now) c.loop.starts.len c.deref_mut.result.now
    c.step_all.new.starts _ _ c.deref_mut.ensures.len c.step_all.ensures.told c.step_all.ensures.starts
    (ap (map told) c.deref_mut.ensures.value ∙ c.loop.invariant.1)
