use Rattle.elasticlunr_text.proofs.OneStem.{one-Stem}
use Rattle.elasticlunr_text.proofs.SomeStem.{some-Stem}
use Rattle.elasticlunr_text.proofs.lang.en.stemmer.Stemmer.new.Goals as goal

pub invariant_of-result : goal.invariant_of-result
invariant_of-result c = record {
  has_stems = λ word. let s = some-Stem word in (s.0, (∣ s.1 ∣₁, λ other is_stem. one-Stem word other s.0 is_stem s.1));
}
