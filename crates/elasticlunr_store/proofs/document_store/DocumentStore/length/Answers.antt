use Rattle.std.proofs.Common.{ap, sym, ◌∙◌}
use Rattle.std.specs.FinMap.{len}
use Rattle.elasticlunr_store.specs.Contents.{text_map}
use Rattle.elasticlunr_json.proofs.Sorted.{len_seen}
use Rattle.elasticlunr_store.proofs.document_store.DocumentStore.length.Goals as goal

pub returns : goal.returns
returns c = c.len.ensures.len ∙ sym (len_seen (λ m. text_map m.entries) c.self.inside.docs.entries
    c.len.ensures.ordered) ∙ ap (λ s. len s.texts) c.self.view_is
