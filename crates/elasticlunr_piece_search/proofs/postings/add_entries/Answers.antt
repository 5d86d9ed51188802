use Rattle.std.proofs.Common.{subst}
use Rattle.elasticlunr_error.specs.Text.{bytes_of}
use Rattle.elasticlunr_piece_search.specs.Entries.{IsEntryAdded}
use Rattle.elasticlunr_piece_search.proofs.Entering.{Entering, enter, finish, wrong}
use Rattle.elasticlunr_piece_search.proofs.Others.{other_again}
use Rattle.elasticlunr_piece_search.proofs.postings.add_entries.Goals as goal

pub loop-token-preserved : goal.loop-token-preserved
loop-token-preserved c =
    let names = bytes_of c.args.references.now in
    let all = c.args.piece.now.entries in
    let added = c.in_ok-add_fields.ensures.added in
    enter names all c.args.tries.now (c.in-Some.token.now, c.in-Some.fields.now) c.next.new.self c.loop-token.tries
    c.add_fields.new.tries added.0
    (subst (λ left. Entering names all left c.args.tries.now c.loop-token.tries) c.in-Some.ensures.steps
    c.loop-token.invariant) added.1
    (subst (λ t. IsEntryAdded names (t, added.0) c.loop-token.tries c.add_fields.new.tries) c.as_str.ensures.value
    added.2)

pub returns-in_err-add_fields-clause-err : goal.returns-in_err-add_fields-clause-err
returns-in_err-add_fields-clause-err c =
    let names = bytes_of c.args.references.now in
    let all = c.args.piece.now.entries in
    other_again _ _ (λ none. wrong names all c.args.tries.now (c.in-Some.token.now, c.in-Some.fields.now)
    c.next.new.self c.loop-token.tries
    (subst (λ left. Entering names all left c.args.tries.now c.loop-token.tries) c.in-Some.ensures.steps
    c.loop-token.invariant) none) c.in_err-add_fields.field-0.0 c.from_residual.result c.from_residual.ensures.1
    c.in_err-add_fields.ensures.err

pub returns-clause-added : goal.returns-clause-added
returns-clause-added c =
    let names = bytes_of c.args.references.now in
    let all = c.args.piece.now.entries in
    finish names all c.args.tries.now c.loop-token.tries
    (subst (λ left. Entering names all left c.args.tries.now c.loop-token.tries) c.in-None.ensures.steps.0
    c.loop-token.invariant)
