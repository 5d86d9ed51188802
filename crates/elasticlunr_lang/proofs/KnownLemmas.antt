-- On the languages with a trimmer of a class.
use Rattle.std.proofs.Common.{◌≡◌, ◌≢◌, refl}
use Rattle.elasticlunr_text.specs.Classes.{in_scripts}
use Rattle.elasticlunr_lang.specs.Classes.{class_stages, class_leaves}
use Rattle.elasticlunr_lang.specs.Known.{language_code, language_scripts, language_stages, language_leaves}
use Rattle.elasticlunr_lang.specs.StopWords.{language_stop_words}
use Rattle.elasticlunr_lang.specs.declared.any.AnyLanguage.{AnyLanguage}
use Rattle.elasticlunr_lang.specs.declared.any.AnyLanguage.TheVariants.{English, Arabic, Korean}

-- all languages but English, Arabic and Korean have these two stages
pub language_stages-class : (language : AnyLanguage) → language ≢ English → language ≢ Arabic → language ≢ Korean
    → language_stages language ≡ class_stages (language_code language)
language_stages-class English no_english no_arabic no_korean = absurd (no_english refl)
language_stages-class Arabic no_english no_arabic no_korean = absurd (no_arabic refl)
language_stages-class Korean no_english no_arabic no_korean = absurd (no_korean refl)
language_stages-class language no_english no_arabic no_korean = refl

-- and these leave the same of a token but for the scripts and the words
pub language_leaves-class : (language : AnyLanguage) → language ≢ English → language ≢ Arabic → language_leaves language
    ≡ class_leaves (in_scripts (language_scripts language)) (language_stop_words language)
language_leaves-class English no_english no_arabic = absurd (no_english refl)
language_leaves-class Arabic no_english no_arabic = absurd (no_arabic refl)
language_leaves-class language no_english no_arabic = refl
