-- Hungarian: its name, its code, its stages, and what these make of a token.
use Rattle.std.specs.Prelude.{◌∷◌, [], List, Option, codes}
use Rattle.ucd_script.specs.declared.Script.{Script}
use Rattle.ucd_script.specs.declared.Script.TheVariants.{Latin}
use Rattle.elasticlunr_text.specs.Text.{Text, Bytes}
use Rattle.elasticlunr_text.specs.Classes.{in_scripts}
use Rattle.elasticlunr_lang.specs.Classes.{class_leaves}
use Rattle.elasticlunr_lang.specs.StopWords.{listed_words}
use Rattle.elasticlunr_stem_languages.specs.declared.hungarian_stop_words.TheConstants as hu

abbrev pub hungarian_name : Bytes
hungarian_name = codes "Hungarian"

abbrev pub hungarian_code : Bytes
hungarian_code = codes "hu"

-- a proof sees the words only where it asks for them
unfoldable pub hungarian_stop_words : List Text
hungarian_stop_words = listed_words hu.STOP_WORDS.now

-- the scripts of the characters that the trimmer keeps
abbrev pub hungarian_scripts : List Script
hungarian_scripts = Latin ∷ []

-- a token is cut to these characters; it is dropped if nothing is left, or a stop word
abbrev pub hungarian_leaves : Text → Option Text → Type 0
hungarian_leaves = class_leaves (in_scripts hungarian_scripts) hungarian_stop_words
