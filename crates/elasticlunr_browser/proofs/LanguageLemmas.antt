-- Languages of a script.
use Rattle.std.proofs.Common.{◌≡◌, ◌≢◌, false, refl}
use Rattle.elasticlunr_lang.specs.declared.any.AnyLanguage.{AnyLanguage}
use Rattle.elasticlunr_lang.specs.declared.any.AnyLanguage.TheVariants.{English}
use Rattle.elasticlunr_browser.specs.Languages.{is_english}
use Rattle.elasticlunr_browser.specs.declared.language.ScriptLanguage.TheVariants.{BuiltIn}

-- no other built-in language is English
pub other_language : (language : AnyLanguage) → language ≢ English → is_english (BuiltIn language) ≡ false
other_language English other = absurd (other refl)
other_language language other = refl
