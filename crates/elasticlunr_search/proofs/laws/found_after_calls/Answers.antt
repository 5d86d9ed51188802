use Rattle.elasticlunr.specs.Reading.{LanguageReads}
use Rattle.elasticlunr_search.proofs.AfterCalls.{finds_across_after, finds_after, finds_in_fields_after}
use Rattle.elasticlunr_search.proofs.laws.found_after_calls.Goals as goal

pub returns-clause-field : goal.returns-clause-field
returns-clause-field g c = λ language plan calls text join field query found one printed searches are_found.
    finds_after (LanguageReads (g.L.Language.tokens_of language) (g.L.Language.leaves_of language)) plan.fields
    plan.reference_field calls printed.commands (λ i r token. c.calls_tell_tokens.ensures.tokens language one
    plan.fields plan.reference_field calls printed.commands i r token printed.were) join field query found
    (are_found language plan printed.commands (searches plan printed.commands printed.print)
    (c.printed_documents_are_read.ensures.readable language plan calls text printed))

pub returns-clause-fields : goal.returns-clause-fields
returns-clause-fields g c = λ language plan calls text join names query found one printed searches are_found.
    finds_in_fields_after (LanguageReads (g.L.Language.tokens_of language) (g.L.Language.leaves_of language))
    plan.fields plan.reference_field calls printed.commands
    (λ i r token. c.calls_tell_tokens.ensures.tokens language one plan.fields plan.reference_field calls
    printed.commands i r token printed.were) join names query found
    (are_found language plan printed.commands (searches plan printed.commands printed.print)
    (c.printed_documents_are_read.ensures.readable language plan calls text printed))

pub returns-clause-across : goal.returns-clause-across
returns-clause-across g c = λ language plan calls text names query found one printed searches are_found.
    finds_across_after (LanguageReads (g.L.Language.tokens_of language) (g.L.Language.leaves_of language)) plan.fields
    plan.reference_field calls printed.commands (λ i r token. c.calls_tell_tokens.ensures.tokens language one
    plan.fields plan.reference_field calls printed.commands i r token printed.were) names query found
    (are_found language plan printed.commands (searches plan printed.commands printed.print)
    (c.printed_documents_are_read.ensures.readable language plan calls text printed))
