use Rattle.std.proofs.Common.{None, false, subst}
use Rattle.elasticlunr_stem_stage.specs.Stemmed.{leaves_with, stages_with}
use Rattle.elasticlunr_lang.specs.Known.{language_name}
use Rattle.elasticlunr_search.specs.Fields.{HasStages}
use Rattle.elasticlunr_search.specs.Refusal.{RefusesValue}
use Rattle.elasticlunr_search.specs.Unanswered.{IsTextNotSearched}
use Rattle.elasticlunr_search.specs.declared.answer.Refusal.TheVariants as refusal
use Rattle.elasticlunr_search.proofs.Requested.{not_opened_by, why_text, unread_text}
use Rattle.elasticlunr_search.proofs.Speaking.{speaks_as_chosen}
use Rattle.elasticlunr_search.proofs.Stemming.{exit_error, has_neither, not_staged, unread_apart}
use Rattle.elasticlunr_search.proofs.Stops.{told_exit}
use Rattle.elasticlunr_search.proofs.Whole.{print_parts}
use Rattle.elasticlunr_search.proofs.named.read_named.Goals as goal

pub returns-in_err-source-clause-refused : goal.returns-in_err-source-clause-refused
returns-in_err-source-clause-refused g c = unread_text _ c.args.text.now None c.in_err-source.field-0.0
    c.from_residual.ensures.1 c.in_err-source.ensures.err

pub returns-in_err-source-clause-other_stages : goal.returns-in_err-source-clause-other_stages
returns-in_err-source-clause-other_stages g c other = absurd (unread_apart c.args.text.now c.in_err-source.field-0.0
    c.in_err-source.ensures.err (exit_error _ _ refusal.OtherPipeline c.from_residual.ensures.1 other))

pub returns-in_err-language-clause-refused : goal.returns-in_err-language-clause-refused
returns-in_err-language-clause-refused g c =
    let v = c.in_ok-source.ensures.ok in
    let none = c.in_err-language.ensures.none in
    told_exit _ _ _ c.from_residual-in_err-language.ensures.1 (rw (none.0) (v.0, v.1, none.1 v.0 v.2))

pub returns-in_err-searcher-clause-refused : goal.returns-in_err-searcher-clause-refused
returns-in_err-searcher-clause-refused g c =
    let v = c.in_ok-source.ensures.ok in
    let language = c.in_ok-language.language in
    let by = c.in_ok-pipeline.ensures in
    let refuses = subst (λ stages. RefusesValue (language_name language) stages v.0 c.in_err-searcher.field-0.0) by.names
    (c.in_err-searcher.ensures.refused v.0 v.2) in
    told_exit _ (IsTextNotSearched c.args.text.now None) _ c.from_residual-in_err-searcher.ensures.1
    (why_text c.args.text.now v.0 None _ v.1
    (not_opened_by v.0 None language (c.in_ok-language.ensures.named v.0 v.2) (stages_with by.stems language)
    (λ none. has_neither v.0 language by.stems (by.own v.0 v.2) none false) c.in_err-searcher.field-0.0 refuses))

pub returns-in_err-searcher-clause-other_stages : goal.returns-in_err-searcher-clause-other_stages
returns-in_err-searcher-clause-other_stages g c other =
    let v = c.in_ok-source.ensures.ok in
    let language = c.in_ok-language.language in
    let by = c.in_ok-pipeline.ensures in
    let refuses = subst (λ stages. RefusesValue (language_name language) stages v.0 c.in_err-searcher.field-0.0) by.names
    (c.in_err-searcher.ensures.refused v.0 v.2) in (
      v.0,
      v.1,
      language,
      c.in_ok-language.ensures.named v.0 v.2,
      has_neither v.0 language by.stems (by.own v.0 v.2) (not_staged (language_name language)
          (stages_with by.stems language) v.0 c.in_err-searcher.field-0.0 refuses
          (exit_error _ _ refusal.OtherPipeline c.from_residual-in_err-searcher.ensures.1 other)),
    )

pub returns-clause-named : goal.returns-clause-named
returns-clause-named g c =
    let v = c.in_ok-source.ensures.ok in
    let searcher = c.in_ok-searcher.searcher in
    let language = c.in_ok-language.language in
    let by = c.in_ok-pipeline.ensures in
    let parts = c.in_ok-searcher.ensures.parts v.0 v.2 in
    let law = c.printed_texts_have_their_parts.ensures.only_within in record {
      value = v.0;
      reads = v.1;
      parts = parts;
      language = language;
      named = c.in_ok-language.ensures.named v.0 v.2;
      stems = by.stems;
      staged = subst (HasStages v.0) by.names (c.in_ok-searcher.ensures.staged v.0 v.2);
      speaks = speaks_as_chosen (leaves_with by.stems) _ searcher language c.in_ok-pipeline.pipeline
          c.in_ok-searcher.ensures.chosen by.stages;
      searches = λ plan commands print. law plan commands _ v.1.0 v.0 _ searcher.printed.tries.items
          searcher.printed.store print v.1.1
          (print_parts plan commands _ v.0 _ _ _ print v.1 parts);
    }
