use Rattle.std.proofs.Common.{ap, sym, ◌∙◌}
use Rattle.serde_json.specs.Written.{has_float}
use Rattle.elasticlunr_store.specs.Contents.{store_object, store_value, text_map}
use Rattle.elasticlunr_json.proofs.Sorted.{len_seen}
use Rattle.elasticlunr_store_maps.proofs.Values.{one_contents, no_float}
use Rattle.std.proofs.Common.{rules}
use Rattle.elasticlunr_store.proofs.document_store.DocumentStore.to_value.Goals as goal

pub returns-clause-value : goal.returns-clause-value
returns-clause-value c =
    let count = c.len.ensures.len ∙ sym (len_seen (λ m. text_map m.entries) c.self.inside.docs.entries
    c.len.ensures.ordered) in
    c.in_ok-store_value.ensures ∙ (λ i. store_object c.self.inside.save (c.in_ok-docs.ensures i)
    (c.in_ok-doc_info.ensures i) (count i)) ∙ ap store_value c.self.view_is

pub returns-clause-only : goal.returns-clause-only
returns-clause-only c other is =
    let count = c.len.ensures.len ∙ sym (len_seen (λ m. text_map m.entries) c.self.inside.docs.entries
    c.len.ensures.ordered) in
    let value = c.in_ok-store_value.ensures
    ∙ (λ i. store_object c.self.inside.save (c.in_ok-docs.ensures i) (c.in_ok-doc_info.ensures i) (count i))
    ∙ ap store_value c.self.view_is in
    one_contents other c.args.self.now (sym is ∙ value)

pub returns-clause-whole : goal.returns-clause-whole
returns-clause-whole c =
    let count = c.len.ensures.len ∙ sym (len_seen (λ m. text_map m.entries) c.self.inside.docs.entries
    c.len.ensures.ordered) in
    let value = c.in_ok-store_value.ensures
    ∙ (λ i. store_object c.self.inside.save (c.in_ok-docs.ensures i) (c.in_ok-doc_info.ensures i) (count i))
    ∙ ap store_value c.self.view_is in
    ap has_float value ∙ no_float c.args.self.now

pub returns-clause-contents : goal.returns-clause-contents
returns-clause-contents c = search rules
