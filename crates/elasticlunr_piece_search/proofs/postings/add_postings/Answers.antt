use Rattle.std.proofs.Common.{◌∷◌, sym, ap, subst, ◌∙◌}
use Rattle.std.proofs.lemmas.List.{nil_from_length}
use Rattle.std.specs.Str.{chars}
use Rattle.serde_json.specs.Data.{array}
use Rattle.serde_json.specs.View.{items_view, view}
use Rattle.elasticlunr_error.specs.Text.{bytes_of}
use Rattle.elasticlunr_json.proofs.ReadingMaps.{array_of}
use Rattle.elasticlunr_trie.specs.Table.{IsChanged, add}
use Rattle.elasticlunr_piece_search.proofs.Others.{other_again}
use Rattle.elasticlunr_piece_search.proofs.Reading.{Reading, finish, its_items, odd, step, wrong}
use Rattle.elasticlunr_piece_search.proofs.postings.add_postings.Goals as goal

pub returns-in_default-split_first-2-clause-err : goal.returns-in_default-split_first-2-clause-err
returns-in_default-split_first-2-clause-err c ps few is =
    let names = bytes_of c.args.references.now in
    let all = c.as_slice-rest.result.now in
    let more = nil_from_length _ c.in_default-split_first-2.ensures.cases in
    let split = c.in-Some-split_first.ensures.cases.0 ∙ ap (λ vs. c.in-Some-split_first.number.now ∷ vs) more in
    odd names c.args.token.now all c.args.trie.now c.in-Some-split_first.number.now c.postings.trie
    (subst (λ vs. Reading names c.args.token.now all vs c.args.trie.now c.postings.trie) split c.postings.invariant)
    ps few (its_items (view c.args.list.now) c.in-Some.items.now.items all ps c.in-Some.ensures
    c.as_slice-rest.ensures.value is)

pub returns-in_err-reference-clause-err : goal.returns-in_err-reference-clause-err
returns-in_err-reference-clause-err c =
    let names = bytes_of c.args.references.now in
    let all = c.as_slice-rest.result.now in
    let split = c.in-Some-split_first.ensures.cases.0
    ∙ ap (λ vs. c.in-Some-split_first.number.now ∷ vs) c.in-Some-split_first-2.ensures.cases.0 in
    other_again _ _ (λ none ps few is. wrong names c.args.token.now all c.args.trie.now
    c.in-Some-split_first.number.now c.in-Some-split_first-2.frequency.now c.in-Some-split_first-2.more.now
    c.postings.trie
    (subst (λ vs. Reading names c.args.token.now all vs c.args.trie.now c.postings.trie) split c.postings.invariant)
    none ps few (its_items (view c.args.list.now) c.in-Some.items.now.items all ps c.in-Some.ensures
    c.as_slice-rest.ensures.value is)) c.in_err-reference.field-0.0 c.from_residual.result c.from_residual.ensures.1
    c.in_err-reference.ensures.err

pub postings-preserved : goal.postings-preserved
postings-preserved c =
    let names = bytes_of c.args.references.now in
    let all = c.as_slice-rest.result.now in
    let posting = c.in_ok-reference.ensures.posting in
    let split = c.in-Some-split_first.ensures.cases.0
    ∙ ap (λ vs. c.in-Some-split_first.number.now ∷ vs) c.in-Some-split_first-2.ensures.cases.0 in
    step names c.args.token.now all c.args.trie.now c.in-Some-split_first.number.now
    c.in-Some-split_first-2.frequency.now c.in-Some-split_first-2.more.now c.postings.trie c.add_posting.new.trie
    posting.0 c.in_ok-reference.frequency
    (subst (λ vs. Reading names c.args.token.now all vs c.args.trie.now c.postings.trie) split c.postings.invariant)
    posting.1 posting.2 posting.3
    (subst (λ r. IsChanged (add (chars c.args.token.now) r c.in_ok-reference.frequency) c.postings.trie
    c.add_posting.new.trie) posting.4 c.in_ok-add_posting.ensures.added)

pub returns-clause-added : goal.returns-clause-added
returns-clause-added c =
    let names = bytes_of c.args.references.now in
    let all = c.as_slice-rest.result.now in
    let done = finish names c.args.token.now all c.args.trie.now c.postings.trie
    (subst (λ vs. Reading names c.args.token.now all vs c.args.trie.now c.postings.trie)
    (nil_from_length _ c.in_default-split_first.ensures.cases) c.postings.invariant) in (
      done.0,
      array_of _ _ c.in-Some.ensures ∙ ap (λ vs. array (items_view vs)) (sym c.as_slice-rest.ensures.value)
          ∙ ap array done.1,
      done.2,
    )
