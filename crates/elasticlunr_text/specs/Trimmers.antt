-- What a trimmer of a class does.
use Rattle.std.specs.Prelude.{ℕ, Bool, Option, string_bytes}
use Rattle.elasticlunr_text.specs.Text.{Text, Bytes}
use Rattle.elasticlunr_text.specs.Trimmed.{trimmed, unless_empty}
use Rattle.elasticlunr_text.specs.Classes.{in_class}
use Rattle.elasticlunr_text.specs.declared.lang.common.trimmer.RegexTrimmer.{RegexTrimmer}

-- the name of the trimmer
abbrev pub trimmer_name : RegexTrimmer → Bytes
trimmer_name trimmer = string_bytes trimmer.name

-- the character is of the trimmer's class
abbrev pub keeps : RegexTrimmer → ℕ → Bool
keeps trimmer c = in_class trimmer.class c

-- the token from its first to its last character of the class, unless that is empty
abbrev pub cut_to_class : RegexTrimmer → Text → Option Text
cut_to_class trimmer token = unless_empty (trimmed (keeps trimmer) token)
