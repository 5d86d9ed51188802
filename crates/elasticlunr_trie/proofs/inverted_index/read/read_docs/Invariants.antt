use Rattle.std.proofs.Common.{◌≡◌, ◌++◌, List, string_cmp, Some}
use Rattle.std.specs.List.Sorted.{IsStrictlySortedBy}
use Rattle.std.specs.Map.{keys_of}
use Rattle.serde_json.specs.View.{view, members_view}
use Rattle.serde_json.specs.Find.{as_object}
use Rattle.serde_json.proofs.Views.{Entry}
use Rattle.elasticlunr_trie.specs.Tree.{frequencies}
use Rattle.elasticlunr_trie_nodes.proofs.Entries.{bytes_of}
use Rattle.elasticlunr_trie.proofs.inverted_index.read.read_docs.Given as goal

-- a posting for each member that was read
abbrev pub invariant-loop-doc_ref : goal.invariant-loop-doc_ref
invariant-loop-doc_ref l =
    record {
      done : List Entry;
      split : Some (members_view (done ++ l.doc_ref-iterator)) ≡ as_object (view l.value);
      sorted_members : IsStrictlySortedBy string_cmp (keys_of (done ++ l.doc_ref-iterator));
      read : members_view done ≡ frequencies (bytes_of l.postings.entries);
      sorted : IsStrictlySortedBy string_cmp (keys_of l.postings.entries);
    }
