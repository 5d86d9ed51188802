use Rattle.std.proofs.Common.{◌∙◌, nat_lt, rules, tests, string_bytes}
use Rattle.std.proofs.lemmas.Iterator.{YieldsList-from_slice}
use Rattle.std.proofs.lemmas.Iterator.Search.{any_from_yields_List}
use Rattle.elasticlunr_store.specs.Contents.{field_length}
use Rattle.elasticlunr_input.proofs.Counting.{any_of_names}
use Rattle.elasticlunr_input.proofs.counts.has_token.Goals as goal

pub returns : goal.returns
returns c =
    let store = c.args.store.now in
    let reference = c.args.reference.now in
    any_from_yields_List (λ field. nat_lt 0 (field_length store reference (string_bytes field))) _ _ c.any.result
    c.any.ensures.ran (YieldsList-from_slice c.args.fields.now cc) (λ x b q k. search (rules, tests))
    ∙ any_of_names (λ field. nat_lt 0 (field_length store reference field)) c.args.fields.now
