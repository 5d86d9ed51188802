use Rattle.std.proofs.Common.{subst}
use Rattle.elasticlunr_text.specs.Text.{bytes_of, texts_of}
use Rattle.elasticlunr.specs.Fields.{borrowed}
use Rattle.elasticlunr.specs.Reading.{LanguageReads}
use Rattle.elasticlunr_search.specs.Tries.{HaveAllAmong, tables_of}
use Rattle.elasticlunr_search.proofs.Across.{across_commands}
use Rattle.elasticlunr_search.proofs.Searching.{across_chosen, across_tries}
use Rattle.elasticlunr_search.proofs.searcher.Searcher.find_across.Goals as goal

pub returns-clause-in_tries : goal.returns-clause-in_tries
returns-clause-in_tries g c =
    let searched = tables_of c.in_ok-tries.tries.items in
    let tokens = texts_of c.in_ok-tokens.tokens.items in
    let found = bytes_of c.in_ok-found.found.items in
    across_tries g.L.Language.tokens_of _ _ c.args.self.now (borrowed c.args.fields.now) searched c.args.query.now
    tokens found c.in_ok-tries.ensures.tries c.in_ok-tokens.ensures.read
    (subst (λ ss. HaveAllAmong searched (texts_of ss) found) c.deref-2.ensures.value
    (subst (λ ts. HaveAllAmong (tables_of ts) (texts_of c.deref-2.result.now) found) c.deref.ensures.value
    c.in_ok-found.ensures))

pub returns-clause-as_chosen : goal.returns-clause-as_chosen
returns-clause-as_chosen g c =
    let searched = tables_of c.in_ok-tries.tries.items in
    let found = bytes_of c.in_ok-found.found.items in
    across_chosen g.L.Language.tokens_of g.L.Language.leaves_of (λ b. (goal.PipelineFn-dyn g b).leaves b.1)
    c.args.self.now (borrowed c.args.fields.now) searched c.args.query.now (texts_of c.in_ok-tokens.tokens.items) found
    c.in_ok-tries.ensures.tries c.in_ok-tokens.ensures.run
    (subst (λ ss. HaveAllAmong searched (texts_of ss) found) c.deref-2.ensures.value
    (subst (λ ts. HaveAllAmong (tables_of ts) (texts_of c.deref-2.result.now) found) c.deref.ensures.value
    c.in_ok-found.ensures))

pub returns-clause-found : goal.returns-clause-found
returns-clause-found g c language plan commands stands read =
    let reads = LanguageReads (g.L.Language.tokens_of language) (g.L.Language.leaves_of language) in
    let law = c.documents_have_the_tokens_of_their_values.ensures.tokens in
    across_commands c.postings_tell_tokens.ensures reads plan commands _ _ _ stands.read
    (λ i r token. law language plan.fields plan.reference_field commands i r token read)
    (borrowed c.args.fields.now) c.args.query.now (bytes_of c.in_ok-found.found.items)
    (returns-clause-in_tries g c language stands.speaks)
