use Rattle.std.proofs.Common.{◌≡◌, ℕ, true≢false, IsSome, inl, inr, [], ◌∷◌, ◌++◌, length, sym, ap, subst, ◌∙◌}
use Rattle.std.proofs.Common.{append_assoc, string_bytes, string_cmp, encode_utf8}
use Rattle.std.specs.Ordering.{nat_cmp}
use Rattle.std.specs.Cmp.Lexicographic.{slice_cmp}
use Rattle.std.specs.List.Sorted.{IsStrictlySortedBy}
use Rattle.std.specs.Map.{keys_of}
use Rattle.serde_json.specs.Data.{put}
use Rattle.serde_json.specs.Find.{get_member}
use Rattle.serde_json.specs.View.{view, members_view}
use Rattle.serde_json.proofs.Views.{Entry, put_last}
use Rattle.std.proofs.lemmas.Result.{IfOk-from_err}
use Rattle.elasticlunr_trie.specs.Reading.{borrowed_values, ReadsChildren}
use Rattle.elasticlunr_trie.proofs.Finishing.{ordered_members}
use Rattle.elasticlunr_trie.proofs.Reading.{nothing_read, not_yet, not_among, is_there, skips_key, takes_key}
use Rattle.elasticlunr_trie.proofs.Reading.{below_next, goes_last, insert_last, borrowed_push, length-borrowed}
use Rattle.elasticlunr_trie.proofs.inverted_index.read.read_children.Goals as goal

pub loop-key-init : goal.loop-key-init
loop-key-init c =
    let from = c.into_iter-key-iterator.ensures.into_iter_gives ∙ c.iter-key-items.ensures.rest in
    record {
      done = [];
      split = from;
      sorted = subst (λ es. IsStrictlySortedBy string_cmp (keys_of es)) (sym from) c.iter-key-items.ensures.ordered;
      reads = subst (λ es. ReadsChildren es (borrowed_values c.args.waiting.now.items)
          (borrowed_values c.args.waiting.now.items) (members_view [])) (sym c.new-children.ensures)
          (nothing_read (borrowed_values c.args.waiting.now.items));
    }

pub loop-key-preserved-then-is_own_key : goal.loop-key-preserved-then-is_own_key
loop-key-preserved-then-is_own_key c =
    let held = c.loop-key.invariant in
    let e : Entry = (c.in-Some.key.now, c.in-Some.value.now) in
    let step = ap (λ xs. held.done ++ xs) (sym c.in-Some.ensures.steps) in
    let more = append_assoc held.done (e ∷ []) c.next.new.self ∙ step in
    let sorted = subst (λ es. IsStrictlySortedBy string_cmp (keys_of es)) (sym step) held.sorted in
    let which = c.is_own_key.ensures.0 c.if-is_own_key.true in
    let name = sym c.as_str.ensures.value in
    record {
      done = held.done ++ e ∷ [];
      split = more ∙ held.split;
      sorted = subst (λ es. IsStrictlySortedBy string_cmp (keys_of es)) (sym more) held.sorted;
      reads = subst (λ ms. ReadsChildren c.loop-key.children.items (borrowed_values c.args.waiting.now.items)
          (borrowed_values c.loop-key.waiting.items) ms) (put_last held.done e c.next.new.self sorted)
          (skips_key _ _ _ _ held.reads (string_bytes e.0) (view e.1)
          (elim which [ inl docs ↦ inl (name ∙ docs) | inr df ↦ inr (name ∙ df) ]));
    }

pub returns-in_default-clause-foreign : goal.returns-in_default-clause-foreign
returns-in_default-clause-foreign c =
    let held = c.loop-key.invariant in
    let e : Entry = (c.in-Some.key.now, c.in-Some.value.now) in
    let step = ap (λ xs. held.done ++ xs) (sym c.in-Some.ensures.steps) in
    let name = c.as_str.ensures.value in
    let name2 = c.as_str-in-loop-key.ensures.value in (
      string_bytes e.0,
      subst (λ es. IsSome (get_member (string_bytes e.0) (members_view es))) (step ∙ held.split)
          (is_there held.done e c.next.new.self),
      λ docs. true≢false (sym (c.is_own_key.ensures.1 (inl (name ∙ docs))) ∙ c.if-is_own_key.false),
      λ df. true≢false (sym (c.is_own_key.ensures.1 (inr (name ∙ df))) ∙ c.if-is_own_key.false),
      λ x scalar is. c.only_char.ensures.none c.in_default.is x scalar (name2 ∙ is),
    )

pub loop-key-preserved : goal.loop-key-preserved
loop-key-preserved c =
    let held = c.loop-key.invariant in
    let e : Entry = (c.in-Some.key.now, c.in-Some.value.now) in
    let letter = c.in-Some-only_char.c in
    let children = c.loop-key.children.items in
    let old = borrowed_values c.args.waiting.now.items in
    let new = borrowed_values c.loop-key.waiting.items in
    let step = ap (λ xs. held.done ++ xs) (sym c.in-Some.ensures.steps) in
    let more = append_assoc held.done (e ∷ []) c.next.new.self ∙ step in
    let sorted = subst (λ es. IsStrictlySortedBy string_cmp (keys_of es)) (sym step) held.sorted in
    let key : encode_utf8 letter ≡ string_bytes e.0 = sym c.in-Some-only_char.ensures.found.0
    ∙ c.as_str-in-loop-key.ensures.value in
    let none = not_yet children old new (members_view held.done) held.reads letter
    (ap (λ k. get_member k (members_view held.done)) key ∙ not_among held.done e c.next.new.self sorted) in
    let gap = goes_last children old new (members_view held.done) held.reads letter
    (λ q some. ap (slice_cmp nat_cmp q) key ∙ below_next held.done e c.next.new.self sorted q some) in
    let count = c.len.ensures ∙ c.loop-key.waiting.ok.0 ∙ sym (length-borrowed c.loop-key.waiting.items) in
    let item = c.in_ok-child.ensures.ok ∙ ap (λ (n : ℕ). (letter, n)) count in
    let gains = c.in_ok-push.ensures.ok ∙ (λ i. children ++ item i ∷ [])
    ∙ sym (insert_last children (letter, length new)) in
    let took = takes_key children old new (members_view held.done) held.reads letter (length children) e.1 none gap
    c.push.new.self.items gains c.in-Some-only_char.ensures.found.1 in
    let waiting : new ++ e.1 ∷ [] ≡ borrowed_values c.push-in-loop-key.new.self.items =
    sym (borrowed_push c.loop-key.waiting.items c.in-Some.value)
    ∙ ap borrowed_values (sym c.in_ok-push-2.ensures.items) in
    let members : put (encode_utf8 letter) (view e.1) (members_view held.done) ≡ members_view (held.done ++ e ∷ []) =
    ap (λ k. put k (view e.1) (members_view held.done)) key ∙ put_last held.done e c.next.new.self sorted in
    record {
      done = held.done ++ e ∷ [];
      split = more ∙ held.split;
      sorted = subst (λ es. IsStrictlySortedBy string_cmp (keys_of es)) (sym more) held.sorted;
      reads = subst (λ vs. ReadsChildren c.push.new.self.items old vs (members_view (held.done ++ e ∷ []))) waiting
          (subst (λ ms. ReadsChildren c.push.new.self.items old (new ++ e.1 ∷ []) ms) members took);
    }

pub returns-clause-order : goal.returns-clause-order
returns-clause-order c = ordered_members c.args.members.now.entries c.iter-key-items.ensures.ordered

pub returns-in_err-child-clause-ok : goal.returns-in_err-child-clause-ok
returns-in_err-child-clause-ok c = IfOk-from_err c.from_residual.result _ c.from_residual.ensures.0

pub returns-in_err-child-clause-order : goal.returns-in_err-child-clause-order
returns-in_err-child-clause-order c = IfOk-from_err c.from_residual.result _ c.from_residual.ensures.0

pub returns-in_err-push-clause-ok : goal.returns-in_err-push-clause-ok
returns-in_err-push-clause-ok c = IfOk-from_err c.from_residual-in_err-push.result _
    c.from_residual-in_err-push.ensures.0

pub returns-in_err-push-clause-order : goal.returns-in_err-push-clause-order
returns-in_err-push-clause-order c = IfOk-from_err c.from_residual-in_err-push.result _
    c.from_residual-in_err-push.ensures.0

pub returns-in_err-push-2-clause-ok : goal.returns-in_err-push-2-clause-ok
returns-in_err-push-2-clause-ok c = IfOk-from_err c.from_residual-in_err-push-2.result _
    c.from_residual-in_err-push-2.ensures.0

pub returns-in_err-push-2-clause-order : goal.returns-in_err-push-2-clause-order
returns-in_err-push-2-clause-order c = IfOk-from_err c.from_residual-in_err-push-2.result _
    c.from_residual-in_err-push-2.ensures.0
