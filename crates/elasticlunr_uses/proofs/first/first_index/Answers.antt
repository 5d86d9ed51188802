use Rattle.std.proofs.Common.{codes, lit≤}
use Rattle.std.specs.Char.{encode_utf8}
use Rattle.std.specs.Fmt.{digits}
use Rattle.elasticlunr.specs.AnyLanguage.TheVariants.{English as english}
use Rattle.elasticlunr.specs.English.{English}
use Rattle.elasticlunr.specs.Print.{escape_byte}
use Rattle.elasticlunr.specs.Written.{compact_text}
use Rattle.elasticlunr.proofs.Holding.{if_ok}
use Rattle.elasticlunr.proofs.Wanting.{adding_wants_memory, after_fits, after_works, memory_passed}
use Rattle.elasticlunr_uses.proofs.OneToken.{only_go}
use Rattle.elasticlunr_uses.proofs.first.first_index.Goals as goal

pub returns-in_err-add_doc-clause-errors : goal.returns-in_err-add_doc-clause-errors
returns-in_err-add_doc-clause-errors c =
    let language : English = record {} in
    let was = c.in_ok-index.ensures.after language in
    memory_passed c.from_residual-in_err-add_doc.result _ c.from_residual-in_err-add_doc.ensures.1
    (adding_wants_memory c.add_doc.result _ (after_works _ _ _ _ _ language _ _ _ was) c.add_doc.ensures.failed _
    c.in_err-add_doc.was _ 1 (after_fits _ _ _ _ _ language _ _ _ was 1 (lit≤ tt)) c.add_doc.ensures.too_many
    c.in_err-add_doc.ensures.errors)

pub returns-clause-text : goal.returns-clause-text
unfolding escape_byte digits encode_utf8
returns-clause-text c =
    let language : English = record {} in
    let one = c.in_ok-add_doc.ensures.after language _ _ (c.in_ok-index.ensures.after language) in
    if_ok c.to_json.result _ _ (λ text printed. c.one_word_is_a_path.ensures english _ _ _ (codes "body") (codes "1")
    (codes "go") (codes "go") (λ e. cc (e)) (λ e. cc (e)) only_go compact_text _ (printed language _ _ one))
    c.to_json.ensures.after
