use Rattle.std.proofs.Common.{◌≡◌, map, take}
use Rattle.elasticlunr_error.specs.Text.{bytes_of}
use Rattle.elasticlunr_store.specs.Contents.{text_map}
use Rattle.elasticlunr_state.specs.Texts.{reference_alone, with_texts}
use Rattle.elasticlunr_state.proofs.documents.document_of.Given as goal

abbrev pub invariant-loop-i : goal.invariant-loop-i
invariant-loop-i l = text_map l.document.entries ≡ with_texts (reference_alone l.ref_field l.doc_ref)
    (bytes_of l.fields) (map (λ value. value.now) (take l.i l.values))
