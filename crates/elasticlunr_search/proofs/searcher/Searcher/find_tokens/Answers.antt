use Rattle.std.proofs.Common.{sym, subst}
use Rattle.elasticlunr_text.specs.Text.{bytes_of, texts_of}
use Rattle.elasticlunr_search.specs.Standing.{fields_of}
use Rattle.elasticlunr_search.specs.Tries.{Have}
use Rattle.elasticlunr_search.proofs.Searching.{of_tokens}
use Rattle.elasticlunr_search.proofs.searcher.Searcher.find_tokens.Goals as goal

pub returns-in_ok-find_any_in-in-Any-clause-in_trie : goal.returns-in_ok-find_any_in-in-Any-clause-in_trie
returns-in_ok-find_any_in-in-Any-clause-in_trie g c =
    let there = c.in-Some.ensures.trie in
    let trie = c.in-Some.trie.now in
    let tokens = texts_of c.args.tokens.now in
    let found = bytes_of c.in_ok-find_any_in-in-Any.field-0.items in
    (trie, there, subst (λ j. Have j trie tokens found) (sym c.in-Any.is) c.in_ok-find_any_in-in-Any.ensures)

pub returns-in_ok-find_any_in-in-Any-clause-found : goal.returns-in_ok-find_any_in-in-Any-clause-found
returns-in_ok-find_any_in-in-Any-clause-found g c plan commands searches =
    let in_trie = returns-in_ok-find_any_in-in-Any-clause-in_trie g c in
    of_tokens c.postings_tell_tokens.ensures (fields_of c.args.self.now) _ _ plan commands searches c.args.join
    c.args.field.now in_trie.0 (texts_of c.args.tokens.now) _ in_trie.1 in_trie.2

pub returns-in_ok-find_all_in-in-All-clause-in_trie : goal.returns-in_ok-find_all_in-in-All-clause-in_trie
returns-in_ok-find_all_in-in-All-clause-in_trie g c =
    let there = c.in-Some.ensures.trie in
    let trie = c.in-Some.trie.now in
    let tokens = texts_of c.args.tokens.now in
    let found = bytes_of c.in_ok-find_all_in-in-All.field-0.items in
    (trie, there, subst (λ j. Have j trie tokens found) (sym c.in-All.is) c.in_ok-find_all_in-in-All.ensures)

pub returns-in_ok-find_all_in-in-All-clause-found : goal.returns-in_ok-find_all_in-in-All-clause-found
returns-in_ok-find_all_in-in-All-clause-found g c plan commands searches =
    let in_trie = returns-in_ok-find_all_in-in-All-clause-in_trie g c in
    of_tokens c.postings_tell_tokens.ensures (fields_of c.args.self.now) _ _ plan commands searches c.args.join
    c.args.field.now in_trie.0 (texts_of c.args.tokens.now) _ in_trie.1 in_trie.2
