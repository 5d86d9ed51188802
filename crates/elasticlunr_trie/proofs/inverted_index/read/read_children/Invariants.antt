use Rattle.std.proofs.Common.{◌≡◌, ◌++◌, List, string_cmp}
use Rattle.std.specs.List.Sorted.{IsStrictlySortedBy}
use Rattle.std.specs.Map.{keys_of}
use Rattle.serde_json.specs.View.{members_view}
use Rattle.serde_json.proofs.Views.{Entry}
use Rattle.elasticlunr_trie.specs.Reading.{borrowed_values, ReadsChildren}
use Rattle.elasticlunr_trie.proofs.inverted_index.read.read_children.Given as goal

-- the children of the members that were read
abbrev pub invariant-loop-key : goal.invariant-loop-key
invariant-loop-key l =
    record {
      done : List Entry;
      split : done ++ l.key-iterator ≡ l.members.entries;
      sorted : IsStrictlySortedBy string_cmp (keys_of (done ++ l.key-iterator));
      reads : ReadsChildren l.children.items (borrowed_values l.fn.waiting.items) (borrowed_values l.waiting.items)
          (members_view done);
    }
