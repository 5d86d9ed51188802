use Rattle.std.proofs.Common.{◌≡◌, [], ◌∷◌, ◌++◌, sym, ap, subst, ◌∙◌, append-nil, append_assoc, Some, string_cmp}
use Rattle.std.specs.List.Sorted.{IsStrictlySortedBy}
use Rattle.std.specs.Map.{keys_of}
use Rattle.serde_json.specs.Data.{object}
use Rattle.serde_json.specs.Find.{as_object}
use Rattle.serde_json.specs.View.{members_view}
use Rattle.serde_json.proofs.Views.{Entry, put_last}
use Rattle.elasticlunr_trie.specs.Tree.{frequency, frequencies}
use Rattle.elasticlunr_trie_nodes.proofs.Entries.{bytes_of, sorted_entries}
use Rattle.elasticlunr_json.proofs.ReadingMaps.{object_of, value_there}
use Rattle.elasticlunr_trie.proofs.Reading.{one_more_posting}
use Rattle.elasticlunr_trie.proofs.inverted_index.read.read_docs.Goals as goal

pub returns-in_default-read_frequency-clause-foreign : goal.returns-in_default-read_frequency-clause-foreign
returns-in_default-read_frequency-clause-foreign c es is =
    let held = c.loop-doc_ref.invariant in
    let step = ap (λ xs. held.done ++ xs) (sym c.in-Some-2.ensures.steps) in
    let all = ap (λ xs. Some (members_view xs)) step ∙ held.split ∙ ap as_object is in
    let same : members_view (held.done ++ (c.in-Some-2.doc_ref.now, c.in-Some-2.frequency.now) ∷ c.next.new.self)
    ≡ frequencies es = cc in
    let n = value_there frequency held.done (c.in-Some-2.doc_ref.now, c.in-Some-2.frequency.now) c.next.new.self es same
    in
    c.read_frequency.ensures.none c.in_default-read_frequency.is n.0 n.1

pub loop-doc_ref-init : goal.loop-doc_ref-init
loop-doc_ref-init c =
    let from = c.into_iter-doc_ref-iterator.ensures.into_iter_gives ∙ c.iter-doc_ref-items.ensures.rest in
    record {
      done = [];
      split = ap (λ es. Some (members_view es)) from ∙ c.in-Some.ensures;
      sorted_members = subst (λ es. IsStrictlySortedBy string_cmp (keys_of es)) (sym from)
          c.iter-doc_ref-items.ensures.ordered;
      read = ap (λ es. frequencies (bytes_of es)) (sym c.new-postings.ensures.empty);
      sorted = c.new-postings.ensures.ordered;
    }

pub loop-doc_ref-preserved : goal.loop-doc_ref-preserved
loop-doc_ref-preserved c =
    let held = c.loop-doc_ref.invariant in
    let e : Entry = (c.in-Some-2.doc_ref.now, c.in-Some-2.frequency.now) in
    let more = append_assoc held.done (e ∷ []) c.next.new.self
    ∙ ap (λ xs. held.done ++ xs) (sym c.in-Some-2.ensures.steps) in
    let sorted = subst (λ es. IsStrictlySortedBy string_cmp (keys_of es))
    (ap (λ xs. held.done ++ xs) c.in-Some-2.ensures.steps) held.sorted_members in
    record {
      done = held.done ++ e ∷ [];
      split = ap (λ xs. Some (members_view xs)) more ∙ held.split;
      sorted_members = subst (λ es. IsStrictlySortedBy string_cmp (keys_of es)) (sym more) held.sorted_members;
      read = one_more_posting held.done e c.next.new.self c.loop-doc_ref.postings.entries c.in_ok-clone.field-0
          c.in-Some-read_frequency.term_freq (put_last held.done e c.next.new.self sorted) held.read
          c.in_ok-clone.ensures.cases c.in-Some-read_frequency.ensures.found
          ∙ ap (λ es. frequencies (bytes_of es)) (sym c.in_ok-insert.ensures.entries);
      sorted = c.in_ok-insert.ensures.ordered;
    }

pub returns-clause-ok : goal.returns-clause-ok
returns-clause-ok c =
    let held = c.loop-doc_ref.invariant in
    let all = sym (append-nil held.done) ∙ ap (λ es. held.done ++ es) (sym c.in-None.ensures.steps.0) in
    object_of _ _ held.split ∙ ap object (ap members_view (sym all) ∙ held.read
    ∙ ap frequencies (sym (sorted_entries c.loop-doc_ref.postings.entries held.sorted)))
