use Rattle.std.proofs.Common.{map}
use Rattle.elasticlunr_error.specs.Text.{text_of}
use Rattle.elasticlunr_trie.specs.Table.{told_tokens}
use Rattle.elasticlunr_state.specs.Counted.{AreRooted}
use Rattle.elasticlunr_state.proofs.counts.rooted_in_order.Given as goal

abbrev pub invariant-loop-token : goal.invariant-loop-token
invariant-loop-token l = AreRooted (map (λ e. (text_of e.0.now, e.1.now)) l.yielded) (told_tokens l.rooted.items)
