use Rattle.std.proofs.Common.{◌≡◌, List, ◌++◌, String, Global, BTreeMap, ℕ}
use Rattle.serde_json.specs.View.{members_view}
use Rattle.elasticlunr_json.specs.Maps.{members, keyed, count}
use Rattle.elasticlunr_store_maps.specs.Contents.{length_map}
use Rattle.elasticlunr_json.proofs.Sorted.{shown}
use Rattle.elasticlunr_store_maps.proofs.value.document_lengths_value.Given as goal

-- a member for each entry that was read
abbrev pub invariant-loop-doc_ref : goal.invariant-loop-doc_ref
invariant-loop-doc_ref l = (done : List (String Global × BTreeMap (String Global) ℕ))
    × (done ++ l.doc_ref-iterator ≡ l.doc_info.entries)
    × (members_view l.members.entries ≡ members (keyed count) (shown (λ m. length_map m.entries) done))
