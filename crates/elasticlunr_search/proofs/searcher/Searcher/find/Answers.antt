use Rattle.std.proofs.Common.{sym, subst}
use Rattle.std.proofs.lemmas.Result.{IfOk-weaker}
use Rattle.elasticlunr_text.specs.Text.{bytes_of}
use Rattle.elasticlunr.specs.Reading.{LanguageReads}
use Rattle.elasticlunr_search.specs.Words.{Finds}
use Rattle.elasticlunr_search.proofs.Wording.{finds_any_word, finds_all_words}
use Rattle.elasticlunr_search.proofs.searcher.Searcher.find.Goals as goal

pub returns-in-Any-clause-found : goal.returns-in-Any-clause-found
returns-in-Any-clause-found g c = IfOk-weaker c.find_any.result _ _ (λ found h language plan commands stands read.
    let reads = LanguageReads (g.L.Language.tokens_of language) (g.L.Language.leaves_of language) in
    let law = c.documents_have_the_tokens_of_their_values.ensures.tokens in
    let f = h language plan commands stands in (
      f.place,
      f.of_field,
      subst (λ j. Finds reads j commands f.place c.args.query.now (bytes_of found.items)) (sym c.in-Any.is)
          (finds_any_word reads f.place c.args.query.now f.tokens f.of_query commands
          (λ r token. law language plan.fields plan.reference_field commands f.place r token read)
          (bytes_of found.items) f.are),
    )) c.find_any.ensures.found

pub returns-in-All-clause-found : goal.returns-in-All-clause-found
returns-in-All-clause-found g c = IfOk-weaker c.find_all.result _ _ (λ found h language plan commands stands read.
    let reads = LanguageReads (g.L.Language.tokens_of language) (g.L.Language.leaves_of language) in
    let law = c.documents_have_the_tokens_of_their_values.ensures.tokens in
    let f = h language plan commands stands in (
      f.place,
      f.of_field,
      subst (λ j. Finds reads j commands f.place c.args.query.now (bytes_of found.items)) (sym c.in-All.is)
          (finds_all_words reads f.place c.args.query.now f.tokens f.of_query commands
          (λ r token. law language plan.fields plan.reference_field commands f.place r token read)
          (bytes_of found.items) f.are),
    )) c.find_all.ensures.found

pub returns-in-Any-clause-in_trie : goal.returns-in-Any-clause-in_trie
returns-in-Any-clause-in_trie g c = rw c.in-Any.is c.find_any.ensures.in_trie

pub returns-in-All-clause-in_trie : goal.returns-in-All-clause-in_trie
returns-in-All-clause-in_trie g c = rw c.in-All.is c.find_all.ensures.in_trie

pub returns-in-All-clause-no_field : goal.returns-in-All-clause-no_field
returns-in-All-clause-no_field g c = c.find_all.ensures.no_field

pub returns-in-All-clause-errors : goal.returns-in-All-clause-errors
returns-in-All-clause-errors g c = c.find_all.ensures.errors

pub returns-in-Any-clause-no_field : goal.returns-in-Any-clause-no_field
returns-in-Any-clause-no_field g c = c.find_any.ensures.no_field

pub returns-in-Any-clause-errors : goal.returns-in-Any-clause-errors
returns-in-Any-clause-errors g c = c.find_any.ensures.errors

pub returns-in-Any-clause-as_chosen : goal.returns-in-Any-clause-as_chosen
returns-in-Any-clause-as_chosen g c = rw c.in-Any.is c.find_any.ensures.as_chosen

pub returns-in-All-clause-as_chosen : goal.returns-in-All-clause-as_chosen
returns-in-All-clause-as_chosen g c = rw c.in-All.is c.find_all.ensures.as_chosen
