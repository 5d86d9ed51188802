use Rattle.std.proofs.Common.{◌≡◌, ◌++◌}
use Rattle.elasticlunr_trie_nodes.specs.Names.{AreNames, Extends, at}
use Rattle.elasticlunr_trie_nodes.specs.Nodes.{IsListed, KeepsLists}
use Rattle.elasticlunr_trie_nodes.specs.Table.{Entries}
use Rattle.elasticlunr_trie_nodes.proofs.Entries.{bytes_of}
use Rattle.elasticlunr_trie_nodes.proofs.Gathered.{Gathered}
use Rattle.elasticlunr_trie_nodes.proofs.numbered.number_docs.Given as goal

-- the postings so far
abbrev pub invariant-loop-doc_ref : goal.invariant-loop-doc_ref
invariant-loop-doc_ref l =
    record {
      names_are : AreNames l.names;
      extends : Extends l.fn.names l.names;
      keeps : KeepsLists l.fn.references.items l.references.items;
      listed : IsListed l.names l.references.items l.k l.postings;
      done : Entries;
      split : done ++ l.doc_ref-iterator ≡ l.docs.entries;
      gathered : Gathered (λ r. at l.names r l.postings) (bytes_of done) (bytes_of l.docs.entries);
    }
