-- The language that is asked for.
use Rattle.std.specs.Prelude.{◌||◌, Bool, Option, map, bytes_eq, find, option_map}
use Rattle.std.specs.Char.{to_ascii_lowercase}
use Rattle.elasticlunr_text.specs.Text.{Bytes}
use Rattle.elasticlunr_lang.specs.Known.{all_languages, language_name, language_code}
use Rattle.elasticlunr_lang.specs.declared.any.AnyLanguage.{AnyLanguage}

-- the texts are equal but for the case of ASCII letters
abbrev pub same_but_for_case : Bytes → Bytes → Bool
same_but_for_case text other = bytes_eq (map to_ascii_lowercase text) (map to_ascii_lowercase other)

-- the language has this name or code, but for the case of ASCII letters
abbrev pub is_called : Bytes → AnyLanguage → Bool
is_called asked language = same_but_for_case (language_name language) asked || same_but_for_case
    (language_code language) asked

-- the name of the first language that is called so
abbrev pub name_asked : Bytes → Option Bytes
name_asked asked = option_map language_name (find (is_called asked) all_languages)
