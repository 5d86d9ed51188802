use Rattle.std.proofs.Common.{◌≡◌, List, ◌++◌}
use Rattle.std.specs.FinMap.{entries}
use Rattle.serde_json.specs.Data.{string}
use Rattle.serde_json.specs.View.{members_view}
use Rattle.serde_json.proofs.Views.{Entry}
use Rattle.elasticlunr_json.specs.Maps.{members, keyed}
use Rattle.elasticlunr_store_maps.specs.Contents.{document_texts}
use Rattle.elasticlunr_store_maps.proofs.read.read_document_texts.Given as goal

-- an entry for each member that was read
abbrev pub invariant-loop-doc_ref : goal.invariant-loop-doc_ref
invariant-loop-doc_ref l = (done : List Entry) × (done ++ l.doc_ref-iterator ≡ l.initial.doc_ref-iterator)
    × (members_view done ≡ members (keyed string) (entries (document_texts l.docs.entries)))
