use Rattle.std.proofs.Common.{arith, option_map}
use Rattle.elasticlunr_piece_search.proofs.Filling.{finish, step, wrong}
use Rattle.elasticlunr_piece_search.proofs.Others.{other_again}
use Rattle.elasticlunr_piece_search.proofs.texts.add_each.Goals as goal

pub returns-in_err-add_document-clause-err : goal.returns-in_err-add_document-clause-err
returns-in_err-add_document-clause-err c = other_again _ _ (wrong (option_map (λ n. n.now) c.args.name)
    c.args.references.now c.args.documents.now c.args.store.now c.loop-place.store c.loop-place.place
    c.index-references-place.result c.index-documents-place.result c.loop-place.invariant (omega arith) (omega arith)
    c.index-references-place.is c.index-documents-place.is) c.in_err-add_document.field-0.0 c.from_residual.result
    c.from_residual.ensures.1 c.in_err-add_document.ensures.err

pub loop-place-preserved : goal.loop-place-preserved
loop-place-preserved c =
    let added = c.in_ok-add_document.ensures.added in
    step (option_map (λ n. n.now) c.args.name) c.args.references.now c.args.documents.now c.args.store.now
    c.loop-place.store c.add_document.new.store c.loop-place.place c.index-references-place.result
    c.index-documents-place.result added.0 c.loop-place.invariant (omega arith) (omega arith)
    c.index-references-place.is c.index-documents-place.is added.1 added.2 added.3

pub returns-clause-added : goal.returns-clause-added
returns-clause-added c = finish (option_map (λ n. n.now) c.args.name) c.args.references.now c.args.documents.now
    c.args.store.now c.loop-place.store c.loop-place.place c.loop-place.invariant (omega arith) (omega arith)
