use Rattle.std.proofs.Common.{take}
use Rattle.std.specs.FinMap.{entries}
use Rattle.elasticlunr_trie_nodes.specs.Names.{AreNames, Extends, at, under_names}
use Rattle.elasticlunr_trie_nodes.specs.Nodes.{IsListed, KeepsLists}
use Rattle.elasticlunr_trie_nodes.proofs.Gathered.{Gathered}
use Rattle.elasticlunr_trie_nodes.proofs.numbered.renumber.Given as goal

-- the postings so far
abbrev pub invariant-loop-i : goal.invariant-loop-i
invariant-loop-i l =
    record {
      names_are : AreNames l.names;
      extends : Extends l.fn.names l.names;
      keeps : KeepsLists l.fn.references.items l.references.items;
      listed : IsListed l.names l.references.items l.k l.postings;
      gathered : Gathered (λ r. at l.names r l.postings) (under_names l.old_names (take l.i (entries l.old)))
          (under_names l.old_names (entries l.old));
    }
