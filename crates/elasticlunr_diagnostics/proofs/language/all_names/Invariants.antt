-- the names so far are those of the first languages
use Rattle.std.proofs.Common.{◌≡◌, map, take}
use Rattle.elasticlunr_text.specs.Text.{bytes_of}
use Rattle.elasticlunr_lang.specs.Known.{language_name}
use Rattle.elasticlunr_diagnostics.proofs.language.all_names.Given as goal

abbrev pub invariant-loop-language : goal.invariant-loop-language
invariant-loop-language l = bytes_of l.names.items ≡ map language_name (take l.language-index l.language-items)
