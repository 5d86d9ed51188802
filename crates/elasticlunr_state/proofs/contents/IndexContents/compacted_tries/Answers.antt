use Rattle.std.proofs.Common.{rules, ◌≡◌, ◌<◌, ◌+◌, length, get_or, vec_len, Some, sym, subst, refl, ap, ◌∙◌}
use Rattle.std.specs.List.{slice_get}
use Rattle.std.proofs.lemmas.Option.{slice_get_read}
use Rattle.elasticlunr_commands.specs.Entered.{IsCompacted}
use Rattle.elasticlunr_state.proofs.Pairing.{one_more}
use Rattle.elasticlunr_state.proofs.contents.IndexContents.compacted_tries.Goals as goal

pub loop-trie-preserved : goal.loop-trie-preserved
loop-trie-preserved c =
    let count : length c.loop-trie.tries.items ≡ c.loop-trie.trie-index = search rules in
    let inside : c.loop-trie.trie-index < length c.args.self.now.tries.items = search rules in
    let as_many : vec_len c.push.new.self ≡ c.loop-trie.trie-index + 1 = search rules in
    let read : slice_get c.args.self.now.tries.items c.loop-trie.trie-index ≡ Some c.trie-item.result =
    slice_get_read c.args.self.now.tries.items (length c.args.self.now.tries.items) c.loop-trie.trie-index
    c.trie-item.result refl inside (c.trie-item.is
    ∙ ap (λ xs. get_or xs c.loop-trie.trie-index c.trie-item.result) c.deref-trie-items.ensures.value) in
    record {
      as_many = as_many;
      each = rw c.in_ok-push.ensures.items (one_more (λ i before after. IsCompacted before after)
          c.args.self.now.tries.items c.loop-trie.tries.items c.in_ok-compacted.field-0 c.trie-item.result
          c.loop-trie.invariant.each
          (subst (λ k. slice_get c.args.self.now.tries.items k ≡ Some c.trie-item.result) (sym count) read)
          (record { known = c.in_ok-compacted.ensures.known; postings = c.in_ok-compacted.ensures.postings }));
    }
