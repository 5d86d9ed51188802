use Rattle.std.proofs.Common.{◌≡◌, ◌≢◌, ◌+◌, ◌*◌, ◌++◌, suc, [], length}
use Rattle.std.specs.Str.{chars}
use Rattle.elasticlunr_error.specs.Text.{text_of, texts_of}
use Rattle.elasticlunr_trie.specs.Visits.{below, left, node_visits, posted}
use Rattle.elasticlunr_trie.proofs.inverted_index.tokens.visit_below.Given as goal

-- what was found and is left, and how long the path is
abbrev pub invariant-loop-left : goal.invariant-loop-left
invariant-loop-left l = record {
  level : l.stack.items ≢ [] → suc (length (text_of l.path)) ≡ length (chars l.text) + length l.stack.items;
  tokens : texts_of l.found.items ++ posted l.nodes
      (left l.nodes (length (chars l.text)) (text_of l.path) l.stack.items)
      ≡ texts_of l.fn.found.items ++ posted l.nodes (below (node_visits l.nodes) (chars l.text) l.children);
}

abbrev pub decreases-loop-left : goal.decreases-loop-left
decreases-loop-left l = 2 * length (left l.nodes (length (chars l.text)) (text_of l.path) l.stack.items) + length
    l.stack.items
