use Rattle.std.proofs.Common.{Err, inl, inr, sym, ap, ◌∙◌}
use Rattle.elasticlunr.specs.Fields.{has_name}
use Rattle.elasticlunr_laws.proofs.RankedCalls.{alone_named}
use Rattle.elasticlunr_uses.proofs.Passing.{passed}
use Rattle.elasticlunr_uses.proofs.ranked.ranked_in_text.Goals as goal

pub returns-in_err-searcher-clause-errors : goal.returns-in_err-searcher-clause-errors
returns-in_err-searcher-clause-errors c = passed c.from_residual.result (λ e. e) _ _ c.from_residual.ensures.1
    (λ plan calls name stages printed. inl (c.a_print_is_refused_for_its_depth_alone.ensures c.args.language plan calls
    _ _ name stages printed c.in_err-searcher.ensures.accepted))

pub returns-in_err-hits-clause-errors : goal.returns-in_err-hits-clause-errors
returns-in_err-hits-clause-errors c = passed c.from_residual-in_err-hits.result (λ e. e) _ _
    c.from_residual-in_err-hits.ensures.1 (λ plan calls name stages printed. elim c.in_err-hits.ensures.errors [
      | inl none ↦ (let lacks = c.search.ensures.no_field (c.in_err-hits.was ∙ ap Err none) in
          let fields = c.a_searcher_has_the_printed_fields.ensures c.args.language c.args.language plan calls _ printed
          c.in_ok-searcher.ensures.stands in
          inr (
            none,
            (
              lacks.0,
              alone_named _ _ _ lacks.0 c.in_ok-options.ensures lacks.1,
              sym (ap (has_name lacks.0) fields) ∙ lacks.2,
            ),
          ))
      | inr memory ↦ inl (inl memory)
    ])

pub returns-clause-ranked : goal.returns-clause-ranked
returns-clause-ranked c = λ plan calls differ printed. c.ranked_after_calls.ensures c.args.language plan calls _ _ _ _ _
    _ (c.a_kept_language_makes_one_document.ensures.reading c.args.language) differ printed
    c.in_ok-searcher.ensures.stands c.in_ok-hits.ensures.has_fields c.in_ok-options.ensures
    c.in_ok-hits.ensures.ranked
