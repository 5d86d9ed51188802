use Rattle.std.proofs.Common.{◌≡◌, vec_len}
use Rattle.elasticlunr_search.proofs.rebuilt_index.in_order.Given as goal

-- a trie for each field so far
abbrev pub invariant-loop-field : goal.invariant-loop-field
invariant-loop-field l = vec_len l.tries ≡ l.field-index
