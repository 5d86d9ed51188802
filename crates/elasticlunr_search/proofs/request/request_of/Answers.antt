use Rattle.std.proofs.Common.{◌≡◌, ◌∙◌, Some, length, ap, sym, subst, arith, rules, vec_len}
use Rattle.std.proofs.lemmas.Grind.{common_steps}
use Rattle.serde_json.specs.Data.{string, array, no_items, item}
use Rattle.serde_json.specs.Find.{as_array}
use Rattle.serde_json.specs.View.{view, items_view}
use Rattle.elasticlunr_search.specs.Requests.{join_text}
use Rattle.elasticlunr_search.proofs.Requested.{three}
use Rattle.elasticlunr_search.proofs.request.request_of.Goals.{in-any, in-all}
use Rattle.elasticlunr_search.proofs.request.request_of.Goals as goal

pub returns-then-len-ne3-clause-none : goal.returns-then-len-ne3-clause-none
returns-then-len-ne3-clause-none c = λ _ field query join is.
    let values = c.in_ok-items.items.now.items in
    let both : Some (items_view values) ≡ Some
    (item (string field) (item (string query) (item (string (join_text join)) no_items))) = c.in_ok-items.ensures
    ∙ ap as_array is in
    let many : length values ≡ 3 = three values _ _ _ (let same : items_view values
    ≡ item (string field) (item (string query) (item (string (join_text join)) no_items)) = cc (both) in same) in
    let counted : vec_len c.in_ok-items.items.now ≡ length values = search rules in
    c.if-len-ne3.true (c.len.ensures ∙ counted ∙ many)

pub returns-clause-some : goal.returns-clause-some
returns-clause-some c =
    let text = c.in_ok-as_str.field-0.now in
    let joined : text ≡ join_text c.match-branch.join = elim c.match-branch.branch [
      | in-any w ↦ w.in-any.is ∙ sym (ap join_text w.join-is)
      | in-all w ↦ w.in-all.is ∙ sym (ap join_text w.join-is)
    ] in
    let read : view c.args.value.now ≡ array
    (item (string c.in_ok-field.field.now) (item (string c.in_ok-query.query.now) (item (string text) no_items)))
    = grind (arith, common_steps) in
    subst (λ t. view c.args.value.now ≡ array
    (item (string c.in_ok-field.field.now) (item (string c.in_ok-query.query.now) (item (string t) no_items))))
    joined read
