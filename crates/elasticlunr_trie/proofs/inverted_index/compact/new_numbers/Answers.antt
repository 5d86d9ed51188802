use Rattle.std.proofs.Common.{◌≡◌, ◌+◌, ◌<◌, ℕ, get_or, List, [], ◌∷◌, ◌++◌, Bool, IsTrue, false, length, Some, inl}
use Rattle.std.proofs.Common.{inr, sym, ap, ◌∙◌, arith, add-one}
use Rattle.std.specs.List.{slice_get}
use Rattle.std.proofs.lemmas.Bool.{cases_eq}
use Rattle.std.proofs.lemmas.List.{length-append}
use Rattle.std.proofs.lemmas.Result.{IfOk-from_err}
use Rattle.elasticlunr_trie_nodes.proofs.Places.{get_before, get_behind}
use Rattle.elasticlunr_trie.specs.Compact.{is_marked, new_number}
use Rattle.elasticlunr_trie.proofs.Marks.{is_marked_or, number_next, number_stays}
use Rattle.elasticlunr_trie.proofs.inverted_index.compact.new_numbers.Goals.{then-marked, else-marked}
use Rattle.elasticlunr_trie.proofs.inverted_index.compact.new_numbers.Goals as goal

-- the numbers with the next after them
more_numbers : (marks : List Bool) (numbers : List ℕ) (i count : ℕ) → length numbers ≡ i → count ≡ new_number marks i
    → ((k : ℕ) → k < i → slice_get numbers k ≡ Some (new_number marks k))
    → (k : ℕ) → k < i + 1 → slice_get (numbers ++ count ∷ []) k ≡ Some (new_number marks k)
more_numbers marks numbers i count long is each k lt = elim (cases_eq k i) [
  | inl same ↦ get_behind numbers (count ∷ []) k 0 (omega arith) ∙ ap Some (is ∙ sym (ap (new_number marks) same))
  | inr apart ↦ get_before numbers (count ∷ []) k (omega arith) ∙ each k (omega arith)
]

counted : (marks : List Bool) (i count now : ℕ) → count ≡ new_number marks i → IsTrue (is_marked marks i) → now
    ≡ count + 1 → now ≡ new_number marks (i + 1)
counted marks i count now is marked more = rw add-one (more ∙ omega (arith, is, number_next marks i marked))

not_counted : (marks : List Bool) (i count now : ℕ) → count ≡ new_number marks i → is_marked marks i ≡ false → now
    ≡ count → now ≡ new_number marks (i + 1)
not_counted marks i count now is unmarked same = rw add-one (same ∙ is ∙ sym (number_stays marks i unmarked))

pub returns-in_err-push : goal.returns-in_err-push
returns-in_err-push c = IfOk-from_err c.from_residual.result _ c.from_residual.ensures.0

pub loop-marked-preserved : goal.loop-marked-preserved
loop-marked-preserved c =
    let marks = c.args.marks.now in
    let i = c.loop-marked.marked-index in
    let held = c.loop-marked.invariant in
    let at : is_marked marks i ≡ get_or marks i false = is_marked_or marks i _ c.loop-marked-test.true in
    record {
      few = elim c.if-marked.branch [
        | then-marked w ↦ omega (arith, w.count-is, held.few)
        | else-marked w ↦
            omega (arith, w.count-is, held.few)
      ];
      count = elim c.if-marked.branch [
        | then-marked w ↦ counted marks i c.loop-marked.count c.if-marked.count held.count (at ∙ w.if-marked.true)
            w.count-is
        | else-marked w ↦ not_counted marks i c.loop-marked.count c.if-marked.count held.count (at ∙ w.if-marked.false)
            w.count-is
      ];
      length_so_far = ap length c.in_ok-push.ensures.items
          ∙ length-append c.loop-marked.numbers.items (c.loop-marked.count ∷ []) ∙ ap (λ n. n + 1) held.length_so_far;
      each = λ k lt. ap (λ ns. slice_get ns k) c.in_ok-push.ensures.items
          ∙ more_numbers marks c.loop-marked.numbers.items i c.loop-marked.count held.length_so_far held.count
          held.each k lt;
    }
