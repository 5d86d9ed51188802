use Rattle.std.proofs.Common.{◌∙◌, bytes_eq, rules, tests, string_bytes}
use Rattle.std.proofs.lemmas.Iterator.{YieldsList-from_slice}
use Rattle.std.proofs.lemmas.Iterator.Search.{any_from_yields_List}
use Rattle.elasticlunr_input.proofs.Counting.{any_of_names}
use Rattle.elasticlunr_input.proofs.notes.is_stored.Goals as goal

pub returns : goal.returns
returns c =
    let field = c.args.field.now in
    any_from_yields_List (λ name. bytes_eq field (string_bytes name)) _ _ c.any.result c.any.ensures.ran
    (YieldsList-from_slice c.args.names.now cc) (λ x b q k. search (rules, tests))
    ∙ any_of_names (bytes_eq field) c.args.names.now
