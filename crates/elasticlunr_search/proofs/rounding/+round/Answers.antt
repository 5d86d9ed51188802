use Rattle.std.proofs.Common.{◌≡◌, ◌<◌, ◌+◌, [], ◌∷◌, ◌++◌, length, take, string_bytes, sym, ap, ◌∙◌, subst}
use Rattle.std.proofs.Common.{append_assoc, arith}
use Rattle.std.proofs.lemmas.List.{take_more}
use Rattle.std.specs.List.Sorted.{IsStrictlySortedBy}
use Rattle.std.specs.Map.{keys_of}
use Rattle.std.specs.String.{string_cmp}
use Rattle.serde_json.specs.View.{items_view, members_view}
use Rattle.serde_json.proofs.Views.{Entry, members_view-insert_entry, put_last}
use Rattle.elasticlunr_search.specs.Whole.{items_with_ones, members_with_ones}
use Rattle.elasticlunr_search.proofs.Whole.{items_more, put_with_ones}
use Rattle.elasticlunr_search.proofs.rounding.+round.Goals as goal

pub round_items-loop-item-preserved : goal.round_items-loop-item-preserved
round_items-loop-item-preserved t c =
    let l = c.loop-item in
    let items = c.deref-item-items.result.now in
    let v = c.item-item.result in
    let lt : l.item-index < length items = omega arith in
    let longer : take (l.item-index + 1) items ≡ take l.item-index items ++ v ∷ [] = take_more items l.item-index v lt
    ∙ ap (λ y. take l.item-index items ++ y ∷ []) (sym c.item-item.is) in
    ap items_view c.in_ok-push.ensures.items ∙ items_more l.rounded.items (take l.item-index items)
    c.in_ok-round.field-0 v l.invariant c.in_ok-round.ensures
    ∙ ap (λ vs. items_with_ones (items_view vs)) (sym longer)

pub round_members-loop-key-preserved : goal.round_members-loop-key-preserved
round_members-loop-key-preserved t c =
    let l = c.loop-key in
    let done = l.invariant.0 in
    let e : Entry = (c.in-Some.key.now, c.in-Some.member.now) in
    let left = c.next.new.self in
    let all : c.args.members.now.entries ≡ done ++ e ∷ left = l.invariant.1
    ∙ ap (λ es. done ++ es) c.in-Some.ensures.steps in
    let last = put_last done e left (subst (λ es. IsStrictlySortedBy string_cmp (keys_of es)) all
    c.iter-key-items.ensures.ordered) in
    let named : string_bytes c.in_ok-name.name ≡ string_bytes e.0 = c.in_ok-name.ensures.cases in (
      done ++ e ∷ [],
      all ∙ sym (append_assoc done (e ∷ []) left),
      ap members_view c.in_ok-insert.ensures.entries ∙ members_view-insert_entry l.rounded.entries c.in_ok-name.name
          c.in_ok-round.field-0
          ∙ rw (named, c.in_ok-round.ensures, l.invariant.2) (put_with_ones (string_bytes e.0) _ (members_view done)
          ∙ ap members_with_ones last),
    )
