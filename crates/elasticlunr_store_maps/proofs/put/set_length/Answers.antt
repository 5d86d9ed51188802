use Rattle.std.proofs.Common.{◌≡◌, Some, None, ap, sym, ◌∙◌, option_map, unwrap_or, rules}
use Rattle.std.specs.FinMap.{get, insert, empty}
use Rattle.std.proofs.lemmas.Map.Text.{btree_map_updates_text}
use Rattle.elasticlunr_store_maps.specs.Contents.{length_map, document_lengths}
use Rattle.elasticlunr_json.proofs.Seen.{get_seen, seen_inserted, insert_itself, on_ok, on_err_map}
use Rattle.elasticlunr_store_maps.proofs.put.set_length.Goals as goal

pub returns-in-Some-clause-ok : goal.returns-in-Some-clause-ok
returns-in-Some-clause-ok c =
    let r = c.args.doc_ref.now in
    let old = c.args.doc_info.now in
    let w = c.put_length.new.lengths in
    let new = c.get_mut.follows.lender w in
    let there : get (document_lengths old.entries) r ≡ Some (length_map c.in-Some.lengths.now.entries) =
    sym (ap (option_map (λ m. length_map m.entries)) c.in-Some.ensures.value
    ∙ sym (get_seen (λ m. length_map m.entries) old r)) in
    let put = seen_inserted (λ m. length_map m.entries) old new r w
    (btree_map_updates_text r old new (Some w) ((c.get_mut.follows.holds w).3 (search rules))) in
    on_ok c.put_length.result _ _ (λ one. put
    ∙ ap (insert (document_lengths old.entries) r)
    (one ∙ (λ i. insert (unwrap_or (sym there i) empty) c.args.field.now c.args.length))) c.put_length.ensures.ok

pub returns-in-Some-clause-err : goal.returns-in-Some-clause-err
returns-in-Some-clause-err c =
    let r = c.args.doc_ref.now in
    let old = c.args.doc_info.now in
    let w = c.put_length.new.lengths in
    let new = c.get_mut.follows.lender w in
    let there = sym (ap (option_map (λ m. length_map m.entries)) c.in-Some.ensures.value
    ∙ sym (get_seen (λ m. length_map m.entries) old r)) in
    let put = seen_inserted (λ m. length_map m.entries) old new r w
    (btree_map_updates_text r old new (Some w) ((c.get_mut.follows.holds w).3 (search rules))) in
    on_err_map c.put_length.result _ _ (λ same. put ∙ ap (insert (document_lengths old.entries) r) same
    ∙ insert_itself (document_lengths old.entries) r _ there) c.put_length.ensures.err

pub returns-in_ok-lengths-in-None-clause-ok : goal.returns-in_ok-lengths-in-None-clause-ok
returns-in_ok-lengths-in-None-clause-ok c =
    let r = c.args.doc_ref.now in
    let old = c.args.doc_info.now in
    let none : get (document_lengths old.entries) r
    ≡ None = sym (ap (option_map (λ m. length_map m.entries)) c.in-None.ensures.value
    ∙ sym (get_seen (λ m. length_map m.entries) old r)) in
    on_ok c.put_lengths.result _ _ (λ put. put
    ∙ (λ i. insert (document_lengths (c.get_mut.follows.holds-at-none i).entries) r
    (c.in_ok-lengths-in-None.ensures i))
    ∙ (λ i. insert (document_lengths old.entries) r
    (insert (unwrap_or (sym none i) empty) c.args.field.now c.args.length))) c.put_lengths.ensures.ok

pub returns-in_ok-lengths-in-None-clause-err : goal.returns-in_ok-lengths-in-None-clause-err
returns-in_ok-lengths-in-None-clause-err c = search rules
