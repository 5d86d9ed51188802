use Rattle.std.proofs.Common.{lit≤}
use Rattle.elasticlunr.proofs.Holding.{if_ok}
use Rattle.elasticlunr.proofs.Wanting.{adding_wants_memory, after_fits, after_works, memory_passed}
use Rattle.elasticlunr.specs.English.{English}
use Rattle.elasticlunr_uses.proofs.order.in_order.Goals as goal

pub returns-in_err-add_doc-clause-errors : goal.returns-in_err-add_doc-clause-errors
returns-in_err-add_doc-clause-errors c =
    let language : English = record {} in
    let was = c.in_ok-index.ensures.after language in
    memory_passed c.from_residual-in_err-add_doc.result _ c.from_residual-in_err-add_doc.ensures.1
    (adding_wants_memory c.add_doc.result _ (after_works _ _ _ _ _ language _ _ _ was) c.add_doc.ensures.failed _
    c.in_err-add_doc.was _ 1 (after_fits _ _ _ _ _ language _ _ _ was 1 (lit≤ tt)) c.add_doc.ensures.too_many
    c.in_err-add_doc.ensures.errors)

pub returns-clause-text : goal.returns-clause-text
returns-clause-text c =
    let language : English = record {} in
    let first = c.in_ok-add_doc.ensures.after language _ _ (c.in_ok-index.ensures.after language) in
    let second = c.in_ok-add_doc-2.ensures.after language _ _ first in
    if_ok c.to_json.result _ _ (λ text printed. printed language _ _ second) c.to_json.ensures.after

pub returns-clause-readable : goal.returns-clause-readable
returns-clause-readable c =
    let language : English = record {} in
    let first = c.in_ok-add_doc.ensures.after language _ _ (c.in_ok-index.ensures.after language) in
    let second = c.in_ok-add_doc-2.ensures.after language _ _ first in
    if_ok c.to_json.result _ _ (λ text readable. readable language _ _ second) c.to_json.ensures.readable
