-- What it is for a language to mean what a kept one means.
use Rattle.std.specs.Prelude.{◌≡◌, ◌↔◌, Option}
use Rattle.elasticlunr_text.specs.Text.{Text}
use Rattle.elasticlunr_lang.specs.Words.{words}
use Rattle.elasticlunr_lang.specs.Known.{language_name, language_code, language_stages}
use Rattle.elasticlunr_lang.specs.Known.{language_leaves}
use Rattle.elasticlunr_lang.specs.declared.any.AnyLanguage.{AnyLanguage}
use Rattle.elasticlunr_lang.specs.declared.language.Language.{Ghosts}

-- the language, of a type with these members of `Language`, means what the definition of the
-- built-in languages says of the variant
pub record MeansAs {L : Type 0} (members : Ghosts L) (language : L) (variant : AnyLanguage) : Type 0
  where
    pub name : members.name_of language ≡ language_name variant
    pub code : members.code_of language ≡ language_code variant
    pub tokens : (text : Text) → members.tokens_of language text ≡ words text
    pub stages : members.stages_of language ≡ language_stages variant
    pub leaves : (token : Text) (left : Option Text) → members.leaves_of language token left
        ↔ language_leaves variant token left
