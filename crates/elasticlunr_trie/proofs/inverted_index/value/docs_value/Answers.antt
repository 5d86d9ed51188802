use Rattle.std.proofs.Common.{suc, sym, ap, subst, ◌∙◌, take, take_all, drop, get_or, [], codes}
use Rattle.std.specs.Prelude.{T}
use Rattle.std.specs.FinMap.{entries_sorted}
use Rattle.std.specs.FinMap.Entries.{is_sorted}
use Rattle.serde_json.specs.Data.{object, put}
use Rattle.serde_json.specs.View.{members_view}
use Rattle.serde_json.proofs.Views.{view-Object}
use Rattle.elasticlunr_error.specs.Text.{text_cmp}
use Rattle.elasticlunr_trie_nodes.specs.Names.{under_names}
use Rattle.elasticlunr_trie.specs.Tree.{frequencies}
use Rattle.elasticlunr_trie_nodes.proofs.Gathered.{name_of}
use Rattle.elasticlunr_trie_nodes.proofs.Ranked.{behind, under_behind_more, under_behind_split}
use Rattle.elasticlunr_trie.proofs.Behind.{put_behind_all}
use Rattle.elasticlunr_trie.proofs.inverted_index.value.docs_value.Goals as goal

pub loop-number-preserved : goal.loop-number-preserved
loop-number-preserved c =
    let i = c.loop-number.number-index in
    let r = c.args.ranked.now in
    let names = c.args.names.now in
    let e = get_or r i (0, 0, 0) in
    let name = name_of names e.1 c.name.result.now (c.requires.there i c.loop-number-test.true) c.name.ensures in
    let inner = view-Object c.set_member.new.members
    ∙ ap object (c.in_ok-set_member.ensures.put
    ∙ (λ j. put (codes "tf") (c.from.ensures j) (members_view (c.new-frequency.ensures.empty j)))) in
    let sorted = subst (λ es. T (is_sorted text_cmp es)) (c.requires.shown.1
    ∙ sym (under_behind_split names r i c.loop-number-test.true)) (entries_sorted c.requires.shown.0) in
    c.in_ok-set_member-2.ensures.put ∙ (λ j. put (name j) (inner j) (c.loop-number.invariant j))
    ∙ put_behind_all (under_names names (behind (take i r))) (get_or names e.1 [], e.2)
    (under_names names (behind (drop (suc i) r))) sorted
    ∙ ap frequencies (sym (under_behind_more names r i c.loop-number-test.true))

pub returns : goal.returns
returns c =
    let all = take_all c.loop-number.number-index c.args.ranked.now c.loop-number-test.false in
    view-Object c.loop-number.docs ∙ ap object (c.loop-number.invariant
    ∙ ap (λ r. frequencies (under_names c.args.names.now (behind r))) all)
