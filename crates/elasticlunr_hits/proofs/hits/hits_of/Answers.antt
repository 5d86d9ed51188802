use Rattle.std.proofs.Common.{◌≡◌, ◌∙◌, ap, IsTrue}
use Rattle.elasticlunr_store.specs.Options.{options_of}
use Rattle.elasticlunr.specs.Fields.{borrowed, has_name}
use Rattle.elasticlunr_json.proofs.Seen.{on_ok}
use Rattle.elasticlunr_search.specs.Standing.{HasFieldsOf, fields_of}
use Rattle.elasticlunr_ranking.specs.Choice.{named_fields}
use Rattle.elasticlunr_hits.specs.Asked.{AreOptionsOf, searched}
use Rattle.elasticlunr_hits.proofs.Kept.{no_other_need}
use Rattle.elasticlunr_hits.proofs.Names.{all_names, same_names}
use Rattle.elasticlunr_hits.proofs.hits.hits_of.Goals as goal

pub returns-in-Each-clause-has_fields : goal.returns-in-Each-clause-has_fields
returns-in-Each-clause-has_fields g c =
    let s = c.args.searcher.now in
    let asked = c.args.asked.now in
    let options = options_of c.in_ok-options.options in
    let names : borrowed c.deref.result.now ≡ searched asked (fields_of s) =
    ap borrowed c.deref.ensures.value ∙ c.in_ok-names.ensures ∙ ap (searched asked) c.fields.ensures in
    let of_asked : AreOptionsOf asked (fields_of s) options = c.in_ok-options.ensures (fields_of s) names in
    on_ok c.hits_with_each.result (HasFieldsOf s (named_fields options)) (HasFieldsOf s (searched asked (fields_of s)))
    (all_names options.fields (searched asked (fields_of s)) of_asked.names
    (λ name. IsTrue (has_name name (fields_of s)))) c.hits_with_each.ensures.has_fields

pub returns : goal.returns
returns g c =
    let s = c.args.searcher.now in
    let asked = c.args.asked.now in
    let options = options_of c.in_ok-options.options in
    let names : borrowed c.deref.result.now ≡ searched asked (fields_of s) =
    ap borrowed c.deref.ensures.value ∙ c.in_ok-names.ensures ∙ ap (searched asked) c.fields.ensures in
    let of_asked : AreOptionsOf asked (fields_of s) options = c.in_ok-options.ensures (fields_of s) names in
    record {
      no_field = λ none. let lacks = c.best_hits.ensures.no_field none in (
        lacks.0,
        (same_names options.fields (searched asked (fields_of s)) of_asked.names lacks.0).0 lacks.1,
        lacks.2,
      );
      has_fields = on_ok c.best_hits.result (HasFieldsOf s (named_fields options))
          (HasFieldsOf s (searched asked (fields_of s)))
          (all_names options.fields (searched asked (fields_of s)) of_asked.names
          (λ name. IsTrue (has_name name (fields_of s)))) c.best_hits.ensures.has_fields;
      errors = c.best_hits.ensures.errors;
      hits = c.best_hits.ensures.hits (no_other_need asked.needed c.in-One.is) of_asked;
    }
