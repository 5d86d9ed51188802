-- The languages of a script, as lines name them.
use Rattle.std.specs.Prelude.{◌≡◌, ◌≢◌, List, [], ◌∷◌}
use Rattle.std.specs.List.{AllZip}
use Rattle.elasticlunr_text.specs.Text.{Bytes}
use Rattle.elasticlunr_browser.specs.Languages.{script_languages, script_name}
use Rattle.elasticlunr_browser.specs.declared.language.ScriptLanguage.{ScriptLanguage}

-- this is the language's name
abbrev pub IsNameOf : Bytes → ScriptLanguage → Type 0
IsNameOf name language = script_name language ≡ name

-- it is no language's name
abbrev pub IsNoName : Bytes → Type 0
IsNoName name = (language : ScriptLanguage) → script_name language ≢ name

-- the languages that these lines name, in order, or all of them where there is no line
abbrev pub AreNamed : List Bytes → List ScriptLanguage → Type 0
AreNamed [] chosen = chosen ≡ script_languages
AreNamed (line ∷ lines) chosen = AllZip IsNameOf (line ∷ lines) chosen
