-- The language of an input.
use Rattle.std.specs.Prelude.{◌≡◌, true, List, Option, Some, string_bytes, codes}
use Rattle.elasticlunr.specs.Known.{language_code, language_leaves, language_name, language_stages}
use Rattle.elasticlunr.specs.Text.{Text, Bytes, bytes_of}
use Rattle.elasticlunr_flat.specs.Flat as flat
use Rattle.elasticlunr_stem_stage.specs.Stemmed.{leaves_with, stages_with}
use Rattle.elasticlunr_c_calls.specs.declared.language.InputLanguage.{InputLanguage}
use Rattle.elasticlunr_c_calls.specs.declared.language.InputLanguage.TheVariants.{BuiltIn, Own}
use Rattle.elasticlunr_c_calls.specs.declared.language.InputLanguage.TheVariants.{Stemmed}

-- its name
abbrev pub name_in : InputLanguage → Bytes
name_in (BuiltIn language) = language_name language
name_in (Own name stages) = string_bytes name
name_in (Stemmed language) = language_name language

-- its code: a custom language has none
abbrev pub code_in : InputLanguage → Bytes
code_in (BuiltIn language) = language_code language
code_in (Own name stages) = codes ""
code_in (Stemmed language) = language_code language

-- the names of its stages
abbrev pub stages_in : InputLanguage → List Bytes
stages_in (BuiltIn language) = language_stages language
stages_in (Own name stages) = bytes_of stages.items
stages_in (Stemmed language) = stages_with true language

-- what its stages may make of a token: those of a custom language change none
abbrev pub leaves_in : InputLanguage → Text → Option Text → Type 0
leaves_in (BuiltIn language) token left = language_leaves language token left
leaves_in (Own name stages) token left = left ≡ Some token
leaves_in (Stemmed language) token left = leaves_with true language token left

-- how an input names the language
abbrev pub naming : InputLanguage → flat.Language
naming (BuiltIn language) = flat.built_in (language_name language)
naming (Own name stages) = flat.own (string_bytes name) (bytes_of stages.items)
naming (Stemmed language) = flat.stemmed (language_name language)

-- the input names this language
abbrev pub IsNamed : flat.Language → InputLanguage → Type 0
IsNamed named language = naming language ≡ named
