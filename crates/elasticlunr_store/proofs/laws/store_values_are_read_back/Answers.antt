use Rattle.std.proofs.Common.{sym, ◌∙◌}
use Rattle.elasticlunr_json.proofs.Refusals.{read_back}
use Rattle.elasticlunr_store.specs.Contents.{IsStoreValue}
use Rattle.elasticlunr_store_maps.proofs.Values.{one_contents}
use Rattle.elasticlunr_store.proofs.laws.store_values_are_read_back.Goals as goal

pub returns : goal.returns
returns c one v answer contents value ok err =
    read_back (λ d. IsStoreValue d v) _ one answer (λ d is. one_contents d one (sym is ∙ value))
    (λ none. none one contents value) ok err
