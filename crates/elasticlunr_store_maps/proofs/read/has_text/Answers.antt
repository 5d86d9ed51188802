use Rattle.std.proofs.Common.{◌≡◌, ◌≢◌, [], ◌++◌, ◌∷◌, IsSomeAnd, sym, ap, subst, ◌∙◌, append_assoc, append-nil}
use Rattle.std.proofs.Common.{string_bytes}
use mathlib.Core.Bool.{false≢true}
use Rattle.std.specs.List.{AllByRecursion}
use Rattle.std.specs.FinMap.{empty}
use Rattle.elasticlunr_store_maps.specs.Contents.{text_map}
use Rattle.elasticlunr_json.proofs.Seen.{bare_entries, some_entries}
use Rattle.elasticlunr_json.proofs.Sorted.{get_entry, get_all, all_more}
use Rattle.elasticlunr_store_maps.proofs.read.has_text.Goals as goal

pub loop-doc_ref-init : goal.loop-doc_ref-init
loop-doc_ref-init c = ([], c.into_iter-doc_ref-iterator.ensures.into_iter_gives ∙ c.iter-doc_ref-items.ensures.rest, tt)

pub loop-doc_ref-preserved : goal.loop-doc_ref-preserved
loop-doc_ref-preserved c =
    let held = c.loop-doc_ref.invariant in
    let more = ap (λ es. held.0 ++ es) (sym c.in-Some.ensures.steps) ∙ held.1 in
    let bare = bare_entries string_bytes c.in-Some.texts.now.entries (c.is_empty.ensures.0 c.if-not-is_empty.false) in (
      held.0 ++ (c.in-Some._doc_ref.now, c.in-Some.texts.now) ∷ [],
      append_assoc held.0 _ c.next.new.self
          ∙ more,
      all_more (λ m. text_map m.entries) (λ e. text_map e.1.entries ≡ empty) held.0
          (c.in-Some._doc_ref.now, c.in-Some.texts.now) held.2 bare,
    )

pub returns-then-not-is_empty-clause-yes : goal.returns-then-not-is_empty-clause-yes
returns-then-not-is_empty-clause-yes c =
    let held = c.loop-doc_ref.invariant in
    let more = ap (λ es. held.0 ++ es) (sym c.in-Some.ensures.steps) ∙ held.1 in
    let filled = some_entries string_bytes c.in-Some.texts.now.entries
    (λ e. false≢true (sym c.if-not-is_empty.true ∙ c.is_empty.ensures.1 e)) in
    let there = get_entry (λ m. text_map m.entries) c.args.docs.now.entries held.0
    (c.in-Some._doc_ref.now, c.in-Some.texts.now) c.next.new.self more c.iter-doc_ref-items.ensures.ordered in
    (string_bytes c.in-Some._doc_ref.now, subst (λ o. IsSomeAnd o (λ texts. texts ≢ empty)) (sym there) filled)

pub returns-clause-no : goal.returns-clause-no
returns-clause-no c r =
    let held = c.loop-doc_ref.invariant in
    let all = sym (append-nil held.0) ∙ ap (λ es. held.0 ++ es) (sym c.in-None.ensures.steps.0) ∙ held.1 in
    let each = get_all (λ m. text_map m.entries) (λ m. m ≡ empty) c.args.docs.now.entries r
    (subst (AllByRecursion (λ e. text_map e.1.entries ≡ empty)) all held.2) in
    each
