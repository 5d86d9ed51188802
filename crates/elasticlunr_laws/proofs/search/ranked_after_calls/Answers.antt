use Rattle.std.proofs.Common.{refl}
use Rattle.elasticlunr.specs.Reading.{LanguageReads}
use Rattle.elasticlunr_laws.proofs.RankedCalls.{ranks_after}
use Rattle.elasticlunr_laws.proofs.search.ranked_after_calls.Goals as goal

pub returns : goal.returns
returns g c = λ language plan calls text join field query options hits reading differ printed searches named one ranked.
    let reads = LanguageReads (g.L.Language.tokens_of language) (g.L.Language.leaves_of language) in
    let stands = searches plan printed.commands printed.print in
    let hits_are = ranked language stands.speaks in
    ranks_after reads plan.fields plan.reference_field calls printed.commands c.postings_tell_tokens.ensures
    (λ i r token. c.documents_have_the_tokens_of_their_values.ensures.tokens language plan.fields plan.reference_field
    printed.commands i r token (c.printed_documents_are_read.ensures.readable language plan calls text printed))
    (λ i r token. c.calls_tell_tokens.ensures.tokens language reading plan.fields plan.reference_field calls
    printed.commands i r token printed.were) c.hits_have_the_tokens.ensures plan _ _ _ refl stands.read differ join
    field query options hits one named hits_are.tokens hits_are.of_query hits_are.are
