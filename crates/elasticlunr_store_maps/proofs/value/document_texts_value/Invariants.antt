use Rattle.std.proofs.Common.{◌≡◌, List, ◌++◌, String, Global, BTreeMap}
use Rattle.serde_json.specs.Data.{string}
use Rattle.serde_json.specs.View.{members_view}
use Rattle.elasticlunr_json.specs.Maps.{members, keyed}
use Rattle.elasticlunr_store_maps.specs.Contents.{text_map}
use Rattle.elasticlunr_json.proofs.Sorted.{shown}
use Rattle.elasticlunr_store_maps.proofs.value.document_texts_value.Given as goal

-- a member for each entry that was read
abbrev pub invariant-loop-doc_ref : goal.invariant-loop-doc_ref
invariant-loop-doc_ref l = (done : List (String Global × BTreeMap (String Global) (String Global)))
    × (done ++ l.doc_ref-iterator ≡ l.docs.entries)
    × (members_view l.members.entries ≡ members (keyed string) (shown (λ m. text_map m.entries) done))
