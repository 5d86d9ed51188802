use Rattle.std.proofs.Common.{arith, get_or, length}
use Rattle.elasticlunr_error.specs.Text.{bytes_of}
use Rattle.elasticlunr_piece_search.specs.Entries.{AreNumbers, list_value}
use Rattle.elasticlunr_piece_search.proofs.Adding.{any_default, finish, item_there, step}
use Rattle.elasticlunr_piece_search.proofs.Others.{other_again}
use Rattle.elasticlunr_piece_search.proofs.postings.add_lists.Goals as goal

pub returns-in_err-add_postings-clause-err : goal.returns-in_err-add_postings-clause-err
returns-in_err-add_postings-clause-err c =
    let names = bytes_of c.args.references.now in
    other_again _ _ (λ none lists few is. let there = item_there list_value (AreNumbers (length names))
    c.args.values.now lists c.loop-place.place c.index-values-place.result is few (omega arith)
    c.index-values-place.is in none there.0 there.2 there.1) c.in_err-add_postings.field-0.0 c.from_residual.result
    c.from_residual.ensures.1 c.in_err-add_postings.ensures.err

pub loop-place-preserved : goal.loop-place-preserved
loop-place-preserved c =
    let added = c.in_ok-add_postings.ensures.added in
    let old = get_or c.loop-place.tries c.loop-place.place c.index-tries-place.result in
    step (bytes_of c.args.references.now) c.args.token.now c.args.values.now c.args.tries.now c.loop-place.tries
    c.loop-place.place c.index-values-place.result added.0 old c.add_postings.new.trie
    c.loop-place.invariant (omega arith) (omega arith) c.index-values-place.is
    (any_default c.loop-place.tries c.loop-place.place c.index-tries-place.result old (omega arith)) added.1 added.2

pub returns-clause-added : goal.returns-clause-added
returns-clause-added c = finish (bytes_of c.args.references.now) c.args.token.now c.args.values.now c.args.tries.now
    c.loop-place.tries c.loop-place.place c.loop-place.invariant (omega arith) (omega arith) (omega arith)
