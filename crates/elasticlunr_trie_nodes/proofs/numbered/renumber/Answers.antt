use Rattle.std.proofs.Common.{◌≡◌, ◌<◌, Some, length, sym, arith, ap, subst, ◌∙◌, take_all, get_or, []}
use Rattle.std.specs.FinMap.{entries, len-entries}
use Rattle.std.specs.List.{slice_get}
use Rattle.elasticlunr_trie_nodes.specs.Names.{AreNames, at, under_names}
use Rattle.elasticlunr_trie_nodes.specs.Nodes.{IsListed}
use Rattle.elasticlunr_trie_nodes.specs.Pairs.{key_at}
use Rattle.elasticlunr_trie_nodes.proofs.Added.{names_entered}
use Rattle.elasticlunr_trie_nodes.proofs.Gathered.{Gathered, gathered_none, gathered_step, gathered_all, extends_same}
use Rattle.elasticlunr_trie_nodes.proofs.Gathered.{extends_on, extends_entered, none_listed_yet, nobody_at}
use Rattle.elasticlunr_trie_nodes.proofs.Named.{found_at, get_pairs_named, name_there, under_more}
use Rattle.elasticlunr_trie_nodes.proofs.Settled.{same_named}
use Rattle.elasticlunr_trie_nodes.proofs.Tables.{get_named}
use Rattle.std.proofs.Common.{rules}
use Rattle.elasticlunr_trie_nodes.proofs.numbered.renumber.Goals as goal

pub loop-i-init : goal.loop-i-init
loop-i-init c = record {
  names_are = c.requires.names;
  extends = extends_same c.args.names.now;
  keeps = λ n k h. h;
  listed = subst (IsListed c.args.names.now c.args.references.now.items c.args.k) (sym c.in_ok-postings.ensures)
      (none_listed_yet c.args.names.now c.args.references.now.items c.args.k);
  gathered = gathered_none _ _ (λ r. ap (at c.args.names.now r) c.in_ok-postings.ensures
      ∙ nobody_at c.args.names.now r);
}

pub name-requires : goal.name-requires
name-requires c =
    subst (λ n. n < length c.args.old_names.now) (sym (ap (λ e. e.0) c.at-number.ensures))
    (c.requires.postings.there c.loop-i.i (omega (
      arith,
      c.loop-i-test.true,
      c.len-count.ensures,
      len-entries c.args.old.now,
    )))

pub loop-i-preserved : goal.loop-i-preserved
loop-i-preserved c =
    let i = c.loop-i.i in
    let pairs = entries c.args.old.now in
    let names = c.args.old_names.now in
    let held = c.loop-i.invariant in
    let name = get_or names (key_at pairs i) [] in
    let below : i < length pairs = omega (arith, c.loop-i-test.true, c.len-count.ensures, len-entries c.args.old.now) in
    let number = ap (λ e. e.0) c.at-number.ensures in
    let frequency = ap (λ e. e.1) c.at-number.ensures in
    let at_key = ap (λ n. slice_get names n) (sym number) ∙ c.name.ensures in
    let there : Some name ≡ Some c.name.result.now =
    sym (name_there names c.requires.old_names (key_at pairs i)
    (c.requires.postings.there i below)) ∙ at_key in
    let is : c.name.result.now ≡ name = cc in
    let ok = c.in_ok-put_posting.ensures in
    record {
      names_are = subst AreNames (sym ok.names) (names_entered c.loop-i.names held.names_are c.name.result.now
          (c.requires.old_names.texts (key_at pairs i) c.name.result.now at_key));
      extends = extends_on _ _ _ held.extends (extends_entered c.loop-i.names c.put_posting.new.names
          c.name.result.now ok.names);
      keeps = λ n k h. ok.keeps n k (held.keeps n k h);
      listed = ok.listed;
      gathered = subst (λ done. Gathered (λ r. at c.put_posting.new.names r c.put_posting.new.postings) done
          (under_names names pairs)) (sym (under_more names pairs i below))
          (gathered_step _ _ _ _ (name, (get_or pairs i (0, 0)).1) held.gathered
          (found_at names c.requires.old_names pairs c.requires.postings i below)
          (ap (λ r. at c.put_posting.new.names r c.put_posting.new.postings) (sym is) ∙ ok.set ∙ ap Some frequency)
          (λ q apart. ok.others q (λ e. apart (e ∙ is))));
    }

pub returns-clause-same : goal.returns-clause-same
returns-clause-same c =
    let all = take_all c.loop-i.i (entries c.args.old.now) (omega (
      arith,
      c.loop-i-test.false,
      c.len-count.ensures,
      len-entries c.args.old.now,
    )) in
    same_named _ _ (λ r.
    get_named c.loop-i.names c.loop-i.postings r
    ∙ gathered_all _ _ (subst (λ es. Gathered (λ r. at c.loop-i.names r c.loop-i.postings)
    (under_names c.args.old_names.now es) (under_names c.args.old_names.now (entries c.args.old.now))) all
    c.loop-i.invariant.gathered) r
    ∙ sym (get_pairs_named c.args.old_names.now c.requires.old_names (entries c.args.old.now) c.requires.postings r))

pub returns-clause-names : goal.returns-clause-names
returns-clause-names c = search rules

pub returns-clause-extends : goal.returns-clause-extends
returns-clause-extends c = search rules

pub returns-clause-keeps : goal.returns-clause-keeps
returns-clause-keeps c = search rules

pub returns-clause-listed : goal.returns-clause-listed
returns-clause-listed c = search rules
