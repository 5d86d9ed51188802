-- English, Arabic and Korean, which have a stage that no other language has.
use Rattle.std.specs.Prelude.{◌≡◌, List, [], ◌∷◌, ◌++◌, Option, None, MatchOption, IsSomeAnd, codes}
use Rattle.elasticlunr_text.specs.Text.{Text, Bytes}
use Rattle.elasticlunr_text.specs.Trimmed.{trimmed, is_word_char}
use Rattle.elasticlunr_text.specs.Stems.{Stem}
use Rattle.elasticlunr_text.specs.Arabic.{arabic_stem}
use Rattle.elasticlunr_lang.specs.Classes.{unless_listed}

-- nothing is left where there is no text, and otherwise its stem
abbrev pub StemOf : Option Text → Option Text → Type 0
StemOf text left = MatchOption text (left ≡ None) (λ word. IsSomeAnd left (Stem word))

abbrev pub english_stages : List Bytes
english_stages = codes "trimmer" ∷ codes "stopWordFilter" ∷ codes "stemmer" ∷ []

-- the token is trimmed, dropped if it is one of the words then, and stemmed
abbrev pub stem_leaves : List Text → Text → Option Text → Type 0
stem_leaves words token left = StemOf (unless_listed words (trimmed is_word_char token)) left

abbrev pub arabic_stages : List Bytes
arabic_stages = codes "stemmer-ar" ∷ []

-- the Arabic stem
abbrev pub arabic_leaves : Text → Option Text → Type 0
arabic_leaves token left = left ≡ arabic_stem token

-- the name of a last stage that keeps every token; it ends with the language's code
abbrev pub keep_stages : Bytes → List Bytes
keep_stages code = (codes "stemmer-" ++ code) ∷ []
