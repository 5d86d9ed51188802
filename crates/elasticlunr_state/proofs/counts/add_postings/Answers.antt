use Rattle.std.proofs.Common.{[], Result, Ok, Err, OnOk, subst}
use Rattle.elasticlunr_trie.specs.Table.{AreChanged, additions, told_tokens}
use Rattle.elasticlunr_state.specs.Counted.{counted_texts, entries_of}
use Rattle.elasticlunr_state.proofs.Counting.{posts_none, posts_all}
use Rattle.elasticlunr_state.proofs.Others.{either_way, all_added, some_added}
use Rattle.elasticlunr_state.proofs.counts.add_postings.Goals as goal

on_ok : {T E : Type 0} {P Q : Type 0} (r : Result T E) → (P → Q) → OnOk r P → OnOk r Q
on_ok (Ok x) f p = f p
on_ok (Err e) f p = tt

pub returns-clause-posted : goal.returns-clause-posted
returns-clause-posted c =
    let old = c.args.trie.now in
    let new = c.add_tokens.new.self in
    let r = c.args.doc_ref.now in
    let rooted = c.in_ok-rooted.rooted.items in
    on_ok c.add_tokens.result (λ changed. posts_all old old new r [] (counted_texts (entries_of c.args.counts.now))
    (told_tokens rooted) (posts_none old r) c.in_ok-rooted.ensures.rooted
    (subst (λ ts. AreChanged (additions r (told_tokens ts)) old new) c.deref.ensures.value changed))
    c.add_tokens.ensures.ok

-- whatever was added is the reference's own
pub returns-clause-others_stay : goal.returns-clause-others_stay
returns-clause-others_stay c =
    let old = c.args.trie.now in
    let new = c.add_tokens.new.self in
    let r = c.args.doc_ref.now in
    either_way c.add_tokens.result (all_added r _ old new) (some_added r _ old new) c.add_tokens.ensures.ok
    c.add_tokens.ensures.err
