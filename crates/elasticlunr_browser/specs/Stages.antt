-- What a script holds of single stages, as JSON values.
use Rattle.std.specs.Prelude.{◌≡◌, ℕ, List, map, codes}
use Rattle.std.specs.declared.string.String.{String}
use Rattle.std.specs.declared.alloc.Global.{Global}
use Rattle.serde_json.specs.Data.{Data, unsigned, number, string, array, object, member, no_members}
use Rattle.serde_json.specs.View.{items_of}
use Rattle.elasticlunr_text.specs.Text.{Text, Bytes, texts_of, bytes_of, is_listed}
use Rattle.elasticlunr_text.specs.StopWords.{filter_name, has_word}
use Rattle.elasticlunr_text.specs.Trimmers.{trimmer_name, keeps}
use Rattle.elasticlunr_text.specs.Arabic.{is_diacritic}
use Rattle.elasticlunr_text.specs.declared.lang.common.stop_words.StopWordFilter.{StopWordFilter}
use Rattle.elasticlunr_text.specs.declared.lang.common.trimmer.RegexTrimmer.{RegexTrimmer}
use Rattle.elasticlunr_browser.specs.Marks.{Marks}
use Rattle.elasticlunr_browser.specs.Pairs.{Pairs, arabic_change}

-- an array of texts, and one of numbers
abbrev pub texts : List Bytes → Data
texts ss = array (items_of (map string ss))

abbrev pub numbers : List ℕ → Data
numbers ns = array (items_of (map (λ n. number (unsigned n)) ns))

-- the object of a filter's name and its words
abbrev pub filter_data : Bytes → Data → Data
filter_data name words = object (member (codes "name") (string name)
    (member (codes "words") words no_members))

-- the object of the Arabic stemmer's name, the marks of what it drops, and what it changes
abbrev pub arabic_data : Bytes → Data → Data → Data
arabic_data name drops changes = object
    (member (codes "changes") changes
    (member (codes "drops") drops (member (codes "name") (string name) no_members)))

-- the name of a filter, and its words
pub record IsFilter (filter : StopWordFilter) (d : Data) : Type 0 where
  pub words : List (String Global)
  pub listed : (token : Text) → has_word filter token ≡ is_listed token (texts_of words)
  pub value : d ≡ filter_data (filter_name filter) (texts (bytes_of words))

-- the marks of a trimmer's class, and its name
pub record IsTrimmer (trimmer : RegexTrimmer) (d : Data) : Type 0 where
  pub marks : List ℕ
  pub are_marks : Marks (keeps trimmer) marks
  pub value : d ≡ object (member (codes "class") (numbers marks)
      (member (codes "name") (string (trimmer_name trimmer)) no_members))

-- what the Arabic stemmer changes, the marks of what it drops, and its name
pub record IsArabic (d : Data) : Type 0 where
  pub marks : List ℕ
  pub pairs : List (String Global)
  pub are_marks : Marks is_diacritic marks
  pub are_pairs : Pairs arabic_change (texts_of pairs)
  pub value : d ≡ arabic_data (codes "stemmer-ar") (numbers marks) (texts (bytes_of pairs))

-- the name of a stage that keeps every token
abbrev pub keep_data : Bytes → Data
keep_data name = object (member (codes "name") (string name) no_members)
