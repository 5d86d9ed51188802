use Rattle.std.proofs.Common.{◌≡◌, ◌<◌, length, Some, sym, ap, subst, ◌∙◌, arith, get_or, true≢false, inl, inr, refl}
use Rattle.std.proofs.Common.{[]}
use mathlib.Core.Bool.{false≢true}
use Rattle.std.proofs.lemmas.Bool.{cases_eq}
use Rattle.std.specs.FinMap.{entries, len-entries}
use Rattle.std.specs.List.{slice_get}
use Rattle.elasticlunr_trie_nodes.specs.Names.{at}
use Rattle.elasticlunr_trie_nodes.specs.Pairs.{key_at}
use Rattle.elasticlunr_trie_nodes.proofs.Named.{found_at, found_from, get_pairs_named, name_there}
use Rattle.elasticlunr_trie.proofs.inverted_index.same.includes.Goals as goal

pub same_posting-requires : goal.same_posting-requires
same_posting-requires c =
    let i = c.loop-i.i in
    let pairs = entries c.args.postings.now in
    let below : i < length pairs = omega (arith, c.loop-i-test.true, c.len-i-end.ensures, len-entries c.args.postings.now) in
    subst (λ n. n < length c.args.names.now) (sym (ap (λ e. e.0) c.at-number.ensures))
    (c.requires.postings.there i below)

pub returns-then-not-same_posting : goal.returns-then-not-same_posting
returns-then-not-same_posting c = (
  λ h. absurd (false≢true h),
  λ all.
      let i = c.loop-i.i in
      let names = c.args.names.now in
      let pairs = entries c.args.postings.now in
      let below : i < length pairs = omega (arith, c.loop-i-test.true, c.len-i-end.ensures, len-entries c.args.postings.now) in
      let number = ap (λ e. e.0) c.at-number.ensures in
      let frequency = ap (λ e. e.1) c.at-number.ensures in
      let name = get_or names (key_at pairs i) [] in
      let here = all name (get_or pairs i (0, 0)).1 (get_pairs_named names c.requires.names pairs c.requires.postings
      name ∙ found_at names c.requires.names pairs c.requires.postings i below) in
      absurd (true≢false (sym (c.same_posting.ensures.1 (λ r is. let both : Some name
      ≡ Some r = sym (name_there names c.requires.names (key_at pairs i)
      (c.requires.postings.there i below)) ∙ ap (λ n. slice_get names n) (sym number)
      ∙ is in let same : name ≡ r = cc in ap (λ q. at c.args.names2.now q c.args.postings2.now) (sym same) ∙ here
      ∙ ap Some (sym frequency))) ∙ c.if-not-same_posting.true)),
)

pub loop-i-preserved : goal.loop-i-preserved
loop-i-preserved c j low =
    let i = c.loop-i.i in
    let names = c.args.names.now in
    let pairs = entries c.args.postings.now in
    let below : i < length pairs = omega (arith, c.loop-i-test.true, c.len-i-end.ensures, len-entries c.args.postings.now) in
    let number = ap (λ e. e.0) c.at-number.ensures in
    let frequency = ap (λ e. e.1) c.at-number.ensures in
    elim (cases_eq j i) [
      | inr other ↦ c.loop-i.invariant j (omega arith)
      | inl same ↦ subst (λ x. at c.args.names2.now (get_or names (key_at pairs x) []) c.args.postings2.now
          ≡ Some (get_or pairs x (0, 0)).1) (sym same)
          (c.same_posting.ensures.0 c.if-not-same_posting.false (get_or names (key_at pairs i) [])
          (ap (λ n. slice_get names n) number ∙ name_there names c.requires.names (key_at pairs i)
          (c.requires.postings.there i below)) ∙ ap Some frequency)
    ]

pub returns : goal.returns
returns c = (
  λ _ r f e.
      let place = found_from c.args.names.now c.requires.names (entries c.args.postings.now) c.requires.postings r f e in
      let both : Some (get_or c.args.names.now (key_at (entries c.args.postings.now) place.0) [])
      ≡ Some r = sym (name_there c.args.names.now c.requires.names (key_at (entries c.args.postings.now) place.0)
      (c.requires.postings.there place.0 place.1)) ∙ place.2 in
      let name : get_or c.args.names.now (key_at (entries c.args.postings.now) place.0) [] ≡ r = cc in
      ap (λ q. at c.args.names2.now q c.args.postings2.now) (sym name)
      ∙ c.loop-i.invariant place.0 (omega (
        arith,
        place.1,
        c.loop-i-test.false,
        c.len-i-end.ensures,
        len-entries c.args.postings.now,
      )) ∙ ap Some place.3,
  λ _. refl,
)
