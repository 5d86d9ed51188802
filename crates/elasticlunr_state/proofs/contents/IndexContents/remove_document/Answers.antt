use Rattle.std.proofs.Common.{rules, ◌≡◌, ◌<◌, ◌≤◌, Some, ap, length, arith, sym, subst, ◌∙◌}
use Rattle.elasticlunr_state.proofs.Removing.{IsTakenUpTo, taken_none, taken_more, written_whole}
use Rattle.std.specs.List.{slice_get}
use Rattle.elasticlunr_state.proofs.Pairing.{within_list}
use Rattle.elasticlunr_state.proofs.contents.IndexContents.remove_document.Goals as goal

pub loop-trie-init : goal.loop-trie-init
loop-trie-init c = subst (λ tables. IsTakenUpTo c.args.doc_ref.now 0 c.args.self.now.tries.items tables)
    (sym c.deref_mut-trie-items.ensures.value) (taken_none c.args.doc_ref.now c.args.self.now.tries.items)

pub loop-trie-preserved : goal.loop-trie-preserved
loop-trie-preserved c =
    let inside : c.loop-trie.trie-index < length c.loop-trie.trie-items = search rules in
    taken_more c.args.doc_ref.now c.loop-trie.trie-index c.args.self.now.tries.items c.loop-trie.trie-items
    c.remove_doc.new.self c.trie-item.result inside c.loop-trie.invariant
    (record {
      known = c.remove_doc.ensures.known;
      its_own = c.remove_doc.ensures.gone;
      others =
          c.remove_doc.ensures.others;
    })

pub returns-clause-tries : goal.returns-clause-tries
returns-clause-tries c =
    let many : length c.loop-trie.trie-items ≡ length c.args.self.now.tries.items = c.loop-trie.invariant.as_many in
    let whole = written_whole c.args.self.now.tries.len c.loop-trie.trie-items c.args.self.now.tries.items many
    c.args.self.now.tries.ok.0 in
    λ i before after eb ea.
    let at : slice_get c.loop-trie.trie-items i ≡ Some after = ap (λ xs. slice_get xs i) (sym whole) ∙ ea in
    let inside : i < length c.loop-trie.trie-items = within_list c.loop-trie.trie-items i after at in
    let done : length c.loop-trie.trie-items ≤ c.loop-trie.trie-index = search rules in
    c.loop-trie.invariant.done i before after (omega (arith, inside, done)) eb at

pub returns-clause-store : goal.returns-clause-store
returns-clause-store c = cc
