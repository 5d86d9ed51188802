use Rattle.std.proofs.Common.{◌≡◌, ◌≢◌, List, ◌++◌, String, Global, BTreeMap, ℕ}
use Rattle.std.specs.List.{AllByRecursion}
use Rattle.std.specs.FinMap.{empty}
use Rattle.elasticlunr_store_maps.specs.Contents.{length_map}
use Rattle.elasticlunr_store_maps.proofs.read.has_empty.Given as goal

-- none of the maps so far is of that kind
abbrev pub invariant-loop-doc_ref : goal.invariant-loop-doc_ref
invariant-loop-doc_ref l = (done : List (String Global × BTreeMap (String Global) ℕ))
    × (done ++ l._doc_ref-iterator ≡ l.doc_info.entries) × AllByRecursion (λ e. length_map e.1.entries ≢ empty) done
