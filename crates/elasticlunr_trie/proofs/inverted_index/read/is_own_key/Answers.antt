use Rattle.std.proofs.Common.{inl, inr, sym, ◌∙◌}
use mathlib.Core.Bool.{false≢true}
use Rattle.std.proofs.lemmas.Slice.Eq.{bytes_eq-Decides}
use Rattle.elasticlunr_trie.proofs.inverted_index.read.is_own_key.Goals as goal

pub returns-else-eq : goal.returns-else-eq
returns-else-eq c = (
  λ yes. inr ((bytes_eq-Decides _ _).0 (sym c.eq-else-eq.ensures ∙ yes)),
  λ either. elim either [
    | inl docs ↦ absurd (false≢true (sym c.if-eq.false ∙ c.eq.ensures ∙ (bytes_eq-Decides _ _).1 docs))
    | inr df ↦ c.eq-else-eq.ensures ∙ (bytes_eq-Decides _ _).1 df
  ],
)
