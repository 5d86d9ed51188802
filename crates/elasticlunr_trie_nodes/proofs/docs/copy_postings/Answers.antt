use Rattle.std.proofs.Common.{◌≡◌, ◌<◌, Some, length, sym, arith, ap, subst, ◌∙◌, take_all, get_or, string_bytes, []}
use Rattle.std.specs.FinMap.{entries, get, insert, len-entries}
use Rattle.std.specs.List.{slice_get}
use Rattle.std.proofs.lemmas.Map.Text.{btree_map_updates_text}
use Rattle.elasticlunr_trie_nodes.specs.Names.{under_names}
use Rattle.elasticlunr_trie_nodes.specs.Pairs.{key_at}
use Rattle.elasticlunr_trie_nodes.specs.Table.{postings_of}
use Rattle.elasticlunr_json.proofs.Seen.{seen_inserted}
use Rattle.elasticlunr_trie_nodes.proofs.Gathered.{Gathered, gathered_none, gathered_step, gathered_all, map_put_here}
use Rattle.elasticlunr_trie_nodes.proofs.Gathered.{map_put_other, no_postings_yet}
use Rattle.elasticlunr_trie_nodes.proofs.Named.{found_at, get_pairs_named, name_there, under_more}
use Rattle.elasticlunr_trie_nodes.proofs.Settled.{same_named}
use Rattle.elasticlunr_trie_nodes.proofs.docs.copy_postings.Goals as goal

pub loop-i-init : goal.loop-i-init
loop-i-init c = gathered_none _ _ (λ r. no_postings_yet r _ c.new-docs.ensures.empty)

pub name-requires : goal.name-requires
name-requires c =
    subst (λ n. n < length c.args.names.now) (sym (ap (λ e. e.0) c.at-number.ensures))
    (c.requires.postings.there c.loop-i.i (omega (
      arith,
      c.loop-i-test.true,
      c.len-i-end.ensures,
      len-entries c.args.postings.now,
    )))

pub loop-i-preserved : goal.loop-i-preserved
loop-i-preserved c =
    let i = c.loop-i.i in
    let pairs = entries c.args.postings.now in
    let names = c.args.names.now in
    let name = get_or names (key_at pairs i) [] in
    let below : i < length pairs = omega (arith, c.loop-i-test.true, c.len-i-end.ensures, len-entries c.args.postings.now)
    in
    let number = ap (λ e. e.0) c.at-number.ensures in
    let frequency = ap (λ e. e.1) c.at-number.ensures in
    let at_key = ap (λ n. slice_get names n) (sym number) ∙ c.name.ensures in
    let there : Some name ≡ Some c.name.result.now =
    sym (name_there names c.requires.names (key_at pairs i)
    (c.requires.postings.there i below)) ∙ at_key in
    let key : string_bytes c.in_ok-from_str.field-0 ≡ name = c.in_ok-from_str.ensures.ok
    ∙ sym (let is : name ≡ c.name.result.now = cc in is) in
    let put : postings_of c.insert.new.self.entries ≡ insert (postings_of c.loop-i.docs.entries) name
    (get_or pairs i (0, 0)).1 =
    seen_inserted (λ n. n) c.loop-i.docs c.insert.new.self (string_bytes c.in_ok-from_str.field-0)
    c.at-number.result.1 (btree_map_updates_text (string_bytes c.in_ok-from_str.field-0) c.loop-i.docs
    c.insert.new.self _ c.in_ok-insert.ensures.updates)
    ∙ (λ j. insert (postings_of c.loop-i.docs.entries) (key j) (frequency j)) in
    subst (λ done. Gathered (λ r. get (postings_of c.insert.new.self.entries) r) done (under_names names pairs))
    (sym (under_more names pairs i below))
    (gathered_step _ _ _ _ (name, (get_or pairs i (0, 0)).1) c.loop-i.invariant
    (found_at names c.requires.names pairs c.requires.postings i below)
    (map_put_here _ _ name _ put) (λ q apart. map_put_other _ _ name _ put q apart))

pub returns : goal.returns
returns c =
    let all = take_all c.loop-i.i (entries c.args.postings.now) (omega (
      arith,
      c.loop-i-test.false,
      c.len-i-end.ensures,
      len-entries c.args.postings.now,
    )) in
    same_named _ _ (λ r.
    gathered_all _ _ (subst (λ es. Gathered (λ r. get (postings_of c.loop-i.docs.entries) r)
    (under_names c.args.names.now es) (under_names c.args.names.now (entries c.args.postings.now))) all
    c.loop-i.invariant) r
    ∙ sym (get_pairs_named c.args.names.now c.requires.names (entries c.args.postings.now) c.requires.postings r))
