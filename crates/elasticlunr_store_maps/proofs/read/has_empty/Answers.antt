use Rattle.std.proofs.Common.{◌≢◌, [], ◌++◌, ◌∷◌, Some, sym, ap, subst, ◌∙◌, append_assoc, append-nil, string_bytes}
use mathlib.Core.Bool.{false≢true}
use Rattle.std.specs.List.{AllByRecursion}
use Rattle.std.specs.FinMap.{empty}
use Rattle.elasticlunr_store_maps.specs.Contents.{length_map}
use Rattle.elasticlunr_json.proofs.Seen.{bare_entries, some_entries, none_as_some}
use Rattle.elasticlunr_json.proofs.Sorted.{get_entry, get_all, all_more}
use Rattle.elasticlunr_store_maps.proofs.read.has_empty.Goals as goal

pub loop-doc_ref-init : goal.loop-doc_ref-init
loop-doc_ref-init c = ([], c.into_iter-doc_ref-iterator.ensures.into_iter_gives ∙ c.iter-doc_ref-items.ensures.rest, tt)

pub loop-doc_ref-preserved : goal.loop-doc_ref-preserved
loop-doc_ref-preserved c =
    let held = c.loop-doc_ref.invariant in
    let more = ap (λ es. held.0 ++ es) (sym c.in-Some.ensures.steps) ∙ held.1 in
    let filled = some_entries (λ n. n) c.in-Some.lengths.now.entries
    (λ e. false≢true (sym c.if-is_empty.false ∙ c.is_empty.ensures.1 e)) in (
      held.0 ++ (c.in-Some._doc_ref.now, c.in-Some.lengths.now) ∷ [],
      append_assoc held.0 _ c.next.new.self
          ∙ more,
      all_more (λ m. length_map m.entries) (λ e. length_map e.1.entries ≢ empty) held.0
          (c.in-Some._doc_ref.now, c.in-Some.lengths.now) held.2 filled,
    )

pub returns-then-is_empty-clause-yes : goal.returns-then-is_empty-clause-yes
returns-then-is_empty-clause-yes c =
    let held = c.loop-doc_ref.invariant in
    let more = ap (λ es. held.0 ++ es) (sym c.in-Some.ensures.steps) ∙ held.1 in
    let none = bare_entries (λ n. n) c.in-Some.lengths.now.entries (c.is_empty.ensures.0 c.if-is_empty.true) in (
      string_bytes c.in-Some._doc_ref.now,
      get_entry (λ m. length_map m.entries) c.args.doc_info.now.entries held.0
          (c.in-Some._doc_ref.now, c.in-Some.lengths.now) c.next.new.self more c.iter-doc_ref-items.ensures.ordered
          ∙ ap Some none,
    )

pub returns-clause-no : goal.returns-clause-no
returns-clause-no c r =
    let held = c.loop-doc_ref.invariant in
    let all = sym (append-nil held.0) ∙ ap (λ es. held.0 ++ es) (sym c.in-None.ensures.steps.0) ∙ held.1 in
    let each = get_all (λ m. length_map m.entries) (λ m. m ≢ empty) c.args.doc_info.now.entries r
    (subst (AllByRecursion (λ e. length_map e.1.entries ≢ empty)) all held.2) in
    none_as_some _ _ each
