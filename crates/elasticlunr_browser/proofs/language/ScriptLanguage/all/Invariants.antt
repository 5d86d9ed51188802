use Rattle.std.proofs.Common.{◌≡◌, map, take}
use Rattle.elasticlunr_browser.specs.declared.language.ScriptLanguage.TheVariants.{BuiltIn}
use Rattle.elasticlunr_browser.proofs.language.ScriptLanguage.all.Given as goal

-- the languages so far
abbrev pub invariant-loop-language : goal.invariant-loop-language
invariant-loop-language l = l.all.items ≡ map BuiltIn (take l.language-index l.language-items)
