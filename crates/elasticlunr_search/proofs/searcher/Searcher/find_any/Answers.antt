use Rattle.std.proofs.Common.{subst}
use Rattle.elasticlunr_text.specs.Text.{bytes_of, texts_of}
use Rattle.elasticlunr.specs.Found.{FindsAny}
use Rattle.elasticlunr_search.specs.Tries.{HaveAny}
use Rattle.elasticlunr_search.specs.declared.words.Join.TheVariants.{Any}
use Rattle.elasticlunr_search.proofs.Asking.{finds_any}
use Rattle.elasticlunr_search.proofs.Searching.{as_chosen, in_trie, of_commands}
use Rattle.elasticlunr_search.proofs.searcher.Searcher.find_any.Goals as goal

pub returns-clause-in_trie : goal.returns-clause-in_trie
returns-clause-in_trie g c =
    let there = c.in-Some.ensures.trie in
    let trie = c.in-Some.trie.now in
    let found = bytes_of c.in_ok-found.found.items in
    in_trie g.L.Language.tokens_of _ _ c.args.self.now Any there.0 trie c.args.field.now c.args.query.now
    (texts_of c.in_ok-tokens.tokens.items) found there.1 there.2 (c.in_ok-tokens.ensures.read there.0)
    (subst (λ ss. HaveAny trie (texts_of ss) found) c.deref.ensures.value c.in_ok-found.ensures)

pub returns-clause-as_chosen : goal.returns-clause-as_chosen
returns-clause-as_chosen g c =
    let there = c.in-Some.ensures.trie in
    let trie = c.in-Some.trie.now in
    let found = bytes_of c.in_ok-found.found.items in
    as_chosen g.L.Language.tokens_of g.L.Language.leaves_of (λ b. (goal.PipelineFn-dyn g b).leaves b.1) c.args.self.now
    Any there.0 trie c.args.field.now c.args.query.now (texts_of c.in_ok-tokens.tokens.items) found there.1
    there.2 (c.in_ok-tokens.ensures.run there.0)
    (subst (λ ss. HaveAny trie (texts_of ss) found) c.deref.ensures.value c.in_ok-found.ensures)

pub returns-clause-found : goal.returns-clause-found
returns-clause-found g c language plan commands stands =
    of_commands _ plan commands _ _ _ stands.read Any (FindsAny commands)
    (finds_any c.postings_tell_tokens.ensures commands) c.args.field.now c.args.query.now
    (bytes_of c.in_ok-found.found.items)
    (returns-clause-in_trie g c language stands.speaks)
