-- The stem that the English stemmer gives.
use Rattle.elasticlunr_text.specs.Text.{Text}
use Rattle.elasticlunr_text.specs.declared.lang.en.stemmer.Stemmer.{Stemmer}

-- the one stem of the word
abbrev pub stem_of : Stemmer → Text → Text
stem_of stemmer word = (stemmer.has_stems word).0
