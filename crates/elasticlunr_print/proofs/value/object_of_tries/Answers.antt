use Rattle.std.proofs.Common.{rules, ◌≡◌, ◌∷◌, length, map, string_bytes, inl, inr, sym, ap, subst, ◌∙◌}
use Rattle.std.proofs.lemmas.List.{length-map}
use Rattle.serde_json.specs.Data.{object, put}
use Rattle.serde_json.specs.View.{view, members_view}
use Rattle.serde_json.proofs.Views.{view-Object}
use Rattle.elasticlunr_print.proofs.Values.{WillHold, hold_none, hold_more, hold_all, all_are_tables}
use Rattle.elasticlunr_print.proofs.value.object_of_tries.Goals as goal

pub loop-name-init : goal.loop-name-init
loop-name-init c =
    let all = map string_bytes c.args.fields.now in
    let names : c.into_iter-name-iterator.result.a.rest.now ≡ c.args.fields.now = search rules in
    let tries : c.into_iter-name-iterator.result.b.rest.now ≡ c.args.tries.now = search rules in
    let many : length c.args.tries.now ≡ length all = c.requires ∙ sym (length-map c.args.fields.now string_bytes) in
    let empty = ap members_view c.new-members.ensures.empty in
    subst (λ ns. WillHold all c.args.tries.now (map string_bytes ns) c.into_iter-name-iterator.result.b.rest.now
    (members_view c.new-members.result.entries)) (sym names)
    (subst (λ ts. WillHold all c.args.tries.now all ts (members_view c.new-members.result.entries)) (sym tries)
    (subst (WillHold all c.args.tries.now all c.args.tries.now) (sym empty) (hold_none all c.args.tries.now many)))

pub loop-name-preserved : goal.loop-name-preserved
loop-name-preserved c =
    let all = map string_bytes c.args.fields.now in
    let members = members_view c.loop-name.members.entries in
    let steps = c.in-Some.ensures.steps in
    let both = subst (λ ns. WillHold all c.args.tries.now (map string_bytes ns) c.loop-name.name-iterator.b.rest.now
    members) steps.0 c.loop-name.invariant in
    let before = subst (λ ts. WillHold all c.args.tries.now
    (map string_bytes (c.in-Some.name.now ∷ c.next.new.self.a.rest.now)) ts members) steps.1 both in
    let value = view c.in_ok-to_value.field-0 in
    let after = c.in_ok-set_member.ensures.put ∙ ap (λ key. put key value members) c.deref.ensures in
    subst (WillHold all c.args.tries.now (map string_bytes c.next.new.self.a.rest.now) c.next.new.self.b.rest.now)
    (sym after)
    (hold_more all c.args.tries.now (string_bytes c.in-Some.name.now) _ c.in-Some.trie.now c.next.new.self.b.rest.now
    members value c.to_value.ensures.table c.in_ok-to_value.ensures.tree before)

pub returns-clause-value : goal.returns-clause-value
returns-clause-value c =
    let names = map string_bytes c.loop-name.name-iterator.a.rest.now in
    let many = c.loop-name.invariant.as_many in
    let mapped = length-map c.loop-name.name-iterator.a.rest.now string_bytes in
    let none : length names ≡ 0 = elim c.in-None.ensures.steps [ inl a ↦ mapped ∙ a.1.0 | inr b ↦ sym many ∙ b.1.0 ] in
    let held = hold_all (map string_bytes c.args.fields.now) c.args.tries.now names c.loop-name.name-iterator.b.rest.now
    (members_view c.loop-name.members.entries) c.loop-name.invariant none in
    (held.0, held.1, view-Object c.loop-name.members ∙ ap object held.2)

pub returns-clause-tables : goal.returns-clause-tables
returns-clause-tables c =
    let names = map string_bytes c.loop-name.name-iterator.a.rest.now in
    let many = c.loop-name.invariant.as_many in
    let mapped = length-map c.loop-name.name-iterator.a.rest.now string_bytes in
    let none : length names ≡ 0 = elim c.in-None.ensures.steps [ inl a ↦ mapped ∙ a.1.0 | inr b ↦ sym many ∙ b.1.0 ] in
    all_are_tables (map string_bytes c.args.fields.now) c.args.tries.now names c.loop-name.name-iterator.b.rest.now
    (members_view c.loop-name.members.entries) c.loop-name.invariant none
