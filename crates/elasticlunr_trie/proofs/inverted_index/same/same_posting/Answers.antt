use Rattle.std.proofs.Common.{◌≡◌, true, ℕ, Option, Some, None, eqb, refl, sym, ap, ◌∙◌}
use mathlib.Core.Bool.{false≢true}
use Rattle.std.specs.Option.{option_eq}
use Rattle.std.proofs.lemmas.Bool.{eq-eqb, eqb-true}
use Rattle.elasticlunr_trie_nodes.specs.Names.{at}
use Rattle.elasticlunr_trie.proofs.inverted_index.same.same_posting.Goals as goal

some_told : (o : Option ℕ) (n : ℕ) → option_eq eqb o (Some n) ≡ true → o ≡ Some n
some_told None n h = absurd (false≢true h)
some_told (Some m) n h = ap Some (eqb-true m n h)

some_same : (o : Option ℕ) (n : ℕ) → o ≡ Some n → option_eq eqb o (Some n) ≡ true
some_same o n is = ap (λ p. option_eq eqb p (Some n)) is ∙ eq-eqb n n refl

pub returns : goal.returns
returns c = (
  λ yes r is.
      let both : Some c.name.result.now ≡ Some r = sym c.name.ensures ∙ is in
      let name : c.name.result.now ≡ r = cc in
      ap (λ q. at c.args.names2.now q c.args.postings2.now) (sym name) ∙ sym c.frequency_of.ensures
      ∙ some_told _ c.args.frequency (sym c.eq.ensures ∙ yes),
  λ all. c.eq.ensures ∙ some_same _ c.args.frequency (c.frequency_of.ensures ∙ all _ c.name.ensures),
)
