use Rattle.std.proofs.Common.{◌≡◌, ◌∙◌, ap, sym, subst, rules, filter, nat_lt, unwrap_or}
use Rattle.std.specs.List.Sorted.{IsStrictlySortedBy}
use Rattle.std.specs.Prelude.{Contains}
use Rattle.elasticlunr_text.specs.Text.{bytes_of, is_listed, text_cmp}
use Rattle.elasticlunr_store.specs.Options.{options_of}
use Rattle.elasticlunr.specs.Fields.{borrowed}
use Rattle.elasticlunr_ranking.specs.Choice.{named_fields}
use Rattle.elasticlunr_ranking.specs.Order.{told_hits}
use Rattle.elasticlunr_search.specs.Standing.{LacksFieldOf, fields_of}
use Rattle.elasticlunr_hits.specs.Asked.{boosted, last_boost, searched}
use Rattle.elasticlunr_hits.specs.Hits.{Told}
use Rattle.elasticlunr_hits.proofs.Kept.{found_come, told_first}
use Rattle.elasticlunr_hits.proofs.Names.{same_names, was_there}
use Rattle.elasticlunr_hits.proofs.hits.hits_with_each.Goals as goal

pub returns-in_err-found-clause-no_field : goal.returns-in_err-found-clause-no_field
returns-in_err-found-clause-no_field g c named of_asked none =
    let lacks : LacksFieldOf c.args.searcher.now (borrowed c.deref-2.result.now) = search rules in (
      lacks.0,
      was_there (λ name. nat_lt 0 (unwrap_or (last_boost c.deref.result.now name) 1)) (borrowed c.args.names.now) lacks.0
          (subst (λ ns. Contains ns lacks.0) (ap borrowed c.deref-2.ensures.value ∙ c.in_ok-boosted.ensures) lacks.1),
      lacks.2,
    )

pub returns-in_err-hits-clause-no_field : goal.returns-in_err-hits-clause-no_field
returns-in_err-hits-clause-no_field g c named of_asked none =
    let options = options_of c.args.options.now in
    let lacks : LacksFieldOf c.args.searcher.now (named_fields options) = search rules in (
      lacks.0,
      subst (λ ns. Contains ns lacks.0) (sym named) ((same_names options.fields
          (searched c.args.asked.now (fields_of c.args.searcher.now)) of_asked.names lacks.0).0 lacks.1),
      lacks.2,
    )

pub returns-clause-hits : goal.returns-clause-hits
returns-clause-hits g c each named of_asked =
    let ranking = c.in_ok-hits.hits.items in
    let found = c.in_ok-found.found.items in
    let kept = c.keep_found.new.hits.items in
    let names : borrowed c.deref-2.result.now
    ≡ boosted c.args.asked.now.boosts.items (searched c.args.asked.now (fields_of c.args.searcher.now)) =
    ap borrowed c.deref-2.ensures.value ∙ c.in_ok-boosted.ensures
    ∙ (λ j. boosted (c.deref.ensures.value j) (named j)) in
    found_come (λ b. (goal.PipelineFn-dyn g b).leaves b.1) c.args.searcher.now c.args.asked.now
    c.words_are_texts.ensures (options_of c.args.options.now) of_asked each (told_hits ranking)
    c.in_ok-hits.ensures.as_chosen (borrowed c.deref-2.result.now) (bytes_of found) names
    c.in_ok-found.ensures.as_chosen (told_hits kept)
    (subst (λ fs. IsStrictlySortedBy text_cmp (bytes_of fs)
    → told_hits kept ≡ filter (λ (hit : Told). is_listed hit.0 (bytes_of fs)) (told_hits ranking))
    c.deref-3.ensures.value c.keep_found.ensures) (told_hits c.keep_first.new.hits.items)
    (ap told_hits c.keep_first.ensures ∙ told_first c.args.asked.now.limit kept)
