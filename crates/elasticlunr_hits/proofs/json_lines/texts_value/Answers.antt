use Rattle.std.proofs.Common.{◌≡◌, ◌∷◌, ◌++◌, String, Global, string_bytes, string_cmp, refl, sym, ap, subst, ◌∙◌, append-nil}
use Rattle.std.proofs.lemmas.List.{map-id}
use Rattle.std.proofs.lemmas.Map.Iter.{rest_so_far}
use Rattle.std.specs.List.Sorted.{IsStrictlySortedBy}
use Rattle.std.specs.Map.{keys_of}
use Rattle.serde_json.specs.Data.{object, put, string}
use Rattle.serde_json.proofs.Views.{view-Object}
use Rattle.elasticlunr_json.specs.Maps.{members}
use Rattle.elasticlunr_json.proofs.Sorted.{put_last, shown, view-String, whole}
use Rattle.elasticlunr_hits.proofs.json_lines.texts_value.Goals as goal

pub loop-field-preserved : goal.loop-field-preserved
loop-field-preserved c =
    let entry : String Global × String Global = (c.in-Some.field, c.in-Some.text) in
    let done = c.loop-field.yielded in
    let left = c.next.new.self in
    let begins = c.into_iter-field-iterator.ensures.into_iter_gives in
    let all : c.args.texts.entries ≡ done ++ entry ∷ left = sym begins.0
    ∙ rest_so_far (λ (e : String Global × String Global). e) done _ _ c.loop-field.yielded_by
    ∙ (λ j. map-id done j ++ c.in-Some.ensures.steps j) in
    c.in_ok-put_member.ensures.put
    ∙ (λ j. put (string_bytes c.in-Some.field) (view-String c.in-Some.text j) (c.loop-field.invariant j))
    ∙ put_last string_bytes string done entry left _
    (subst (λ es. IsStrictlySortedBy string_cmp (keys_of es)) all begins.5) refl

pub returns : goal.returns
returns c =
    let done = c.loop-field.yielded in
    let begins = c.into_iter-field-iterator.ensures.into_iter_gives in
    let all : c.args.texts.entries ≡ done = sym begins.0
    ∙ rest_so_far (λ (e : String Global × String Global). e) done _ _ c.loop-field.yielded_by
    ∙ (λ j. map-id done j ++ c.in-None.ensures.steps.0 j) ∙ append-nil done in
    view-Object c.loop-field.members
    ∙ ap object (c.loop-field.invariant ∙ ap (λ es. members string (shown string_bytes es)) (sym all))
    ∙ whole string_bytes string c.args.texts.entries begins.5
