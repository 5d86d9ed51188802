use Rattle.std.proofs.Common.{◌≡◌, ◌<◌, ◌||◌, Some, [], length, map, sym, ap, subst, ◌∙◌, arith, get_or, take_all}
use Rattle.std.specs.FinMap.{entries, len-entries}
use Rattle.std.specs.List.{slice_get}
use Rattle.elasticlunr_error.specs.Text.{is_listed}
use Rattle.elasticlunr_trie_nodes.specs.Pairs.{key_at}
use Rattle.elasticlunr_trie_nodes.proofs.Named.{name_there}
use Rattle.elasticlunr_trie.specs.References.{texts_in}
use Rattle.elasticlunr_trie.proofs.References.{names_among, put_one_more, names_posted, or_none, or_keeps, or_more}
use Rattle.elasticlunr_trie.proofs.References.{among_all, on_err}
use Rattle.elasticlunr_trie.proofs.inverted_index.references.put_names.Goals as goal

pub loop-i-init : goal.loop-i-init
loop-i-init c r = or_none (is_listed r (texts_in c.args.found.now))

pub name-requires : goal.name-requires
name-requires c =
    subst (λ n. n < length c.args.names.now) (sym (ap (λ e. e.0) c.at-number.ensures))
    (c.requires.postings.there c.loop-i.i (omega (
      arith,
      c.loop-i-test.true,
      c.len-i-end.ensures,
      len-entries c.args.postings.now,
    )))

pub loop-i-preserved : goal.loop-i-preserved
loop-i-preserved c =
    let i = c.loop-i.i in
    let pairs = entries c.args.postings.now in
    let names = c.args.names.now in
    let name = get_or names (key_at pairs i) [] in
    let below : i < length pairs = omega (arith, c.loop-i-test.true, c.len-i-end.ensures, len-entries c.args.postings.now) in
    let number = ap (λ e. e.0) c.at-number.ensures in
    let at_key = ap (λ n. slice_get names n) (sym number) ∙ c.name.ensures in
    let there : Some name ≡ Some c.name.result.now =
    sym (name_there names c.requires.names (key_at pairs i)
    (c.requires.postings.there i below)) ∙ at_key in
    let is : c.name.result.now ≡ name = cc in
    put_one_more names pairs i below _ _ c.args.found.now c.name.result is
    c.in_ok-insert.ensures.updates c.loop-i.invariant

pub returns-clause-listed : goal.returns-clause-listed
returns-clause-listed c r =
    let all = take_all c.loop-i.i (entries c.args.postings.now) (omega (
      arith,
      c.loop-i-test.false,
      c.len-i-end.ensures,
      len-entries c.args.postings.now,
    )) in
    c.loop-i.invariant r
    ∙ ap (λ b. is_listed r (texts_in c.args.found.now) || b)
    (ap (λ ps. is_listed r (names_among c.args.names.now ps)) all ∙ names_posted c.args.names.now c.requires.names
    (entries c.args.postings.now) c.requires.postings r)

pub returns-clause-keeps : goal.returns-clause-keeps
returns-clause-keeps c r h = or_keeps _ _ _ (c.loop-i.invariant r) h

pub returns-in_err-insert-clause-keeps : goal.returns-in_err-insert-clause-keeps
returns-in_err-insert-clause-keeps c r h =
    or_keeps _ _ _ (ap (λ ks. is_listed r (map (λ k. k.now) ks)) c.in_err-insert.ensures.err
    ∙ c.loop-i.invariant r) h

pub returns-in_err-insert-clause-err : goal.returns-in_err-insert-clause-err
returns-in_err-insert-clause-err c = on_err c.from_residual.result _ (λ r h.
    or_more _ _ _ _ (ap (λ ks. is_listed r (map (λ k. k.now) ks)) c.in_err-insert.ensures.err
    ∙ c.loop-i.invariant r)
    (λ some. sym (names_posted c.args.names.now c.requires.names (entries c.args.postings.now) c.requires.postings r)
    ∙ among_all c.args.names.now (entries c.args.postings.now) c.loop-i.i r some) h)
