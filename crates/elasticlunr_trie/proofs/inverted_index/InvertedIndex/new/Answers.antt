use Rattle.std.proofs.Common.{[]}
use Rattle.elasticlunr_trie.proofs.Blank.{blank_index, blank_table}
use Rattle.elasticlunr_trie.proofs.Bounds.{nodes_table}
use Rattle.elasticlunr_trie_nodes.proofs.Tables.{empty_trie}
use Rattle.elasticlunr_trie.proofs.inverted_index.InvertedIndex.new.Goals as goal

pub invariant_of-result : goal.invariant_of-result
invariant_of-result c = (
  rw (c.new.ensures.items, c.new-2.ensures.items, c.new-3.ensures, c.new-4.ensures.items)
      blank_index,
  c.new-5.ensures _,
)

pub returns-clause-new : goal.returns-clause-new
returns-clause-new c = rw (c.new.ensures.items, c.new-2.ensures.items, c.new-3.ensures) blank_table

pub returns-clause-table : goal.returns-clause-table
returns-clause-table c = rw (c.new.ensures.items, c.new-2.ensures.items, c.new-3.ensures)
    (nodes_table [] [] empty_trie [] [] blank_index)
