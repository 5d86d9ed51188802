use Rattle.std.proofs.Common.{◌≡◌, ◌∙◌, nat_eq, rules}
use Rattle.elasticlunr_json.specs.Maps.{same_map}
use Rattle.elasticlunr_store.proofs.document_store.DocumentStorePartialEq.eq.Goals as goal

pub returns-then-same_document_texts : goal.returns-then-same_document_texts
returns-then-same_document_texts c =
    let lengths : c.same_document_lengths.result ≡ same_map (same_map nat_eq) c.args.self.now.lengths
    c.args.other.now.lengths =
    c.same_document_lengths.ensures ∙ (λ i. same_map (same_map nat_eq) (c.self.view_is i).lengths
    (c.other.view_is i).lengths) in
    search rules
