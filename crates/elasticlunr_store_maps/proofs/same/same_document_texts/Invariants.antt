use Rattle.std.proofs.Common.{◌≡◌, true, ◌&&◌, List, ◌++◌, String, Global, BTreeMap, bytes_eq}
use Rattle.std.specs.Cmp.Lexicographic.{pointwise}
use Rattle.elasticlunr_json.specs.Maps.{same_map}
use Rattle.elasticlunr_store_maps.specs.Contents.{text_map}
use Rattle.elasticlunr_json.proofs.Sorted.{shown}
use Rattle.elasticlunr_store_maps.proofs.same.same_document_texts.Given as goal

-- the entries so far are the same
abbrev pub invariant-loop-doc_ref : goal.invariant-loop-doc_ref
invariant-loop-doc_ref l =
    (done : List (String Global × BTreeMap (String Global) (String Global)))
    × (others : List (String Global × BTreeMap (String Global) (String Global)))
    × (done ++ l.doc_ref-iterator ≡ l.a.entries) × (others ++ l.others ≡ l.b.entries)
    × (pointwise (λ p q. bytes_eq p.0 q.0 && same_map bytes_eq p.1 q.1) (shown (λ m. text_map m.entries) done)
    (shown (λ m. text_map m.entries) others) ≡ true)
