use Rattle.std.proofs.Common.{◌≡◌, ◌↔◌, ◌+◌, ◌∷◌, ◌||◌, [], List, String, Global, drop, sym, ap, subst, ◌∙◌}
use Rattle.std.specs.Prelude.{IsTrue}
use Rattle.std.specs.List.{dedup}
use Rattle.std.specs.List.Sorted.{IsStrictlySortedBy}
use Rattle.std.specs.String.{string_cmp, string_cmp_total, string_bytes, string_eq}
use Rattle.std.specs.Cmp.Lexicographic.{texts_ties}
use Rattle.std.proofs.lemmas.List.{drop_all}
use Rattle.std.proofs.lemmas.List.Filters.{dedup_is}
use Rattle.std.proofs.lemmas.List.Kept.{IsStrictlySortedBy-dedup}
use Rattle.std.proofs.lemmas.Str.{chars-nil}
use Rattle.elasticlunr_error.specs.Text.{Bytes, Text, bytes_of, is_listed, text_cmp, texts_of}
use Rattle.elasticlunr_trie.specs.Tokens.{IsTokenFrom}
use Rattle.elasticlunr_pieces.specs.Entries.{IsTokenOf}
use Rattle.elasticlunr_pieces.proofs.Listed.{all_so_far, listed_append, listed_moved, listed_once, one_table_more}
use Rattle.elasticlunr_pieces.proofs.Listed.{strings_in_order, HasSoFar}
use Rattle.elasticlunr_pieces.proofs.Writing.{drop_step}
use Rattle.elasticlunr_pieces.proofs.tokens.tokens_of.Goals as goal

pub loop-trie-preserved : goal.loop-trie-preserved
loop-trie-preserved c =
    let tries = c.args.tries.now in
    let i = c.loop-trie.trie-index in
    let trie = c.trie-item.result in
    let found = c.in_ok-tokens.tokens.items in
    let before = c.loop-trie.all.items in
    let split : drop i tries ≡ trie ∷ drop (i + 1) tries =
    drop_step tries i trie c.loop-trie-test.true c.trie-item.is in
    one_table_more before c.append.new.self.items trie (drop (i + 1) tries) tries found
    (subst (λ s. (t : Text) → IsTrue (is_listed t (texts_of found)) ↔ IsTokenFrom trie s t) chars-nil
    c.in_ok-tokens.ensures.tokens)
    (λ b. ap (λ v. is_listed b (bytes_of v)) c.in_ok-append.ensures.items ∙ listed_append b before found)
    (subst (λ left. HasSoFar before left tries) split c.loop-trie.invariant)

pub returns : goal.returns
returns c =
    let tries = c.args.tries.now in
    let found = c.loop-trie.all.items in
    let sorted = c.sort.new.self.items in
    let tokens = c.dedup.new.self.items in
    let left = drop_all c.loop-trie.trie-index tries c.loop-trie-test.false in
    let so_far : HasSoFar found [] tries = subst (λ ts. HasSoFar found ts tries) left c.loop-trie.invariant in
    let once : tokens ≡ dedup string_eq sorted = dedup_is string_eq sorted tokens c.dedup.ensures.filtered in
    let order : IsStrictlySortedBy string_cmp (dedup string_eq sorted) = IsStrictlySortedBy-dedup string_cmp_total
    (λ x y. texts_ties (string_bytes x) (string_bytes y)) sorted c.in_ok-sort.ensures.sorted in
    let same : (b : Bytes) → is_listed b (bytes_of found) ≡ is_listed b (bytes_of tokens) = λ b.
    sym (ap (λ v. is_listed b (bytes_of v)) once ∙ listed_once b sorted
    ∙ listed_moved b found sorted c.in_ok-sort.ensures.permutation) in
    record {
      order = subst (λ v. IsStrictlySortedBy text_cmp (bytes_of v)) (sym once)
          (strings_in_order (dedup string_eq sorted) order);
      all = λ b. subst (λ x. IsTrue x ↔ IsTokenOf tries b) (same b) (all_so_far found tries so_far b);
    }
