use Rattle.std.proofs.Common.{◌≡◌, true≢false, option_map, string_bytes, sym, ap, subst, ◌∙◌}
use Rattle.serde_json.specs.View.{view}
use Rattle.elasticlunr_store.specs.Contents.{text_map, with_document}
use Rattle.elasticlunr_piece_search.specs.Texts.{HasReference}
use Rattle.elasticlunr_piece_search.proofs.Filling.{one_document}
use Rattle.elasticlunr_piece_search.proofs.texts.add_document.Goals as goal

pub returns-then-not-is_of-clause-err : goal.returns-then-not-is_of-clause-err
returns-then-not-is_of-clause-err c texts is has =
    let own = text_map c.in_ok-texts.texts.entries in
    let same = one_document (view c.args.document.now) texts own is c.in_ok-texts.ensures.ok in
    true≢false (sym (c.is_of.ensures.1 (subst (HasReference (option_map (λ n. n.now) c.args.name)
    (string_bytes c.args.reference.now)) same has)) ∙ c.if-not-is_of.true)

pub returns-in-Ok-clause-added : goal.returns-in-Ok-clause-added
returns-in-Ok-clause-added c =
    let own = text_map c.in_ok-texts.texts.entries in (
      own,
      c.in_ok-texts.ensures.ok,
      c.is_of.ensures.0 c.if-not-is_of.false,
      c.in-Ok.ensures.ok ∙ ap (λ r. with_document c.args.store.now r own) c.as_str.ensures.value,
    )
