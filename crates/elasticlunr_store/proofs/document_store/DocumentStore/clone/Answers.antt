use Rattle.std.proofs.Common.{sym, subst, ◌∙◌, string_bytes}
use Rattle.elasticlunr_store.specs.Contents.{IsContents, text_map, length_map}
use Rattle.elasticlunr_json.proofs.Seen.{cloned}
use Rattle.elasticlunr_store.proofs.document_store.DocumentStore.clone.Goals as goal

pub invariant_of-result : goal.invariant_of-result
invariant_of-result c =
    let texts = cloned (λ m. text_map m.entries) _ (λ m n h. cloned string_bytes _ (λ s t e. e) m.entries n.entries h)
    c.self.inside.docs.entries c.in_ok-clone.field-0.entries c.in_ok-clone.ensures.cases in
    let lengths = cloned (λ m. length_map m.entries) _ (λ m n h. cloned (λ n. n) _ (λ s t e. e) m.entries n.entries h)
    c.self.inside.doc_info.entries c.in_ok-clone-2.field-0.entries c.in_ok-clone-2.ensures.cases in
    subst IsContents (λ i. record { save = c.self.inside.save; texts = sym texts i; lengths = sym lengths i })
    c.self.invariant

pub returns-clause-ok : goal.returns-clause-ok
returns-clause-ok c =
    let texts = cloned (λ m. text_map m.entries) _ (λ m n h. cloned string_bytes _ (λ s t e. e) m.entries n.entries h)
    c.self.inside.docs.entries c.in_ok-clone.field-0.entries c.in_ok-clone.ensures.cases in
    let lengths = cloned (λ m. length_map m.entries) _ (λ m n h. cloned (λ n. n) _ (λ s t e. e) m.entries n.entries h)
    c.self.inside.doc_info.entries c.in_ok-clone-2.field-0.entries c.in_ok-clone-2.ensures.cases in
    (λ i. record { save = c.self.inside.save; texts = texts i; lengths = lengths i }) ∙ c.self.view_is
