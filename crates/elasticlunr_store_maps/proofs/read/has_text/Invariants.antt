use Rattle.std.proofs.Common.{◌≡◌, List, ◌++◌, String, Global, BTreeMap}
use Rattle.std.specs.List.{AllByRecursion}
use Rattle.std.specs.FinMap.{empty}
use Rattle.elasticlunr_store_maps.specs.Contents.{text_map}
use Rattle.elasticlunr_store_maps.proofs.read.has_text.Given as goal

-- none of the maps so far is of that kind
abbrev pub invariant-loop-doc_ref : goal.invariant-loop-doc_ref
invariant-loop-doc_ref l = (done : List (String Global × BTreeMap (String Global) (String Global)))
    × (done ++ l._doc_ref-iterator ≡ l.docs.entries) × AllByRecursion (λ e. text_map e.1.entries ≡ empty) done
