-- A name names one language.
use Rattle.std.proofs.Common.{◌≡◌, Option, Some, bytes_eq, refl, sym, ap, ◌∙◌}
use Rattle.std.specs.List.{find}
use Rattle.elasticlunr_text.specs.Text.{Bytes}
use Rattle.elasticlunr_lang.specs.Known.{all_languages, language_name}
use Rattle.elasticlunr_lang.specs.declared.any.AnyLanguage.{AnyLanguage}
use Rattle.elasticlunr_lang.specs.declared.any.AnyLanguage.TheVariants.{English, Arabic, Danish, Dutch, Finnish, French}
use Rattle.elasticlunr_lang.specs.declared.any.AnyLanguage.TheVariants.{German, Italian, Korean, Norwegian, Portuguese}
use Rattle.elasticlunr_lang.specs.declared.any.AnyLanguage.TheVariants.{Romanian, Russian, Spanish, Swedish, Turkish}

-- the first language of this name
abbrev first_named : Bytes → Option AnyLanguage
first_named name = find (λ language. bytes_eq (language_name language) name) all_languages

its_own : (language : AnyLanguage) → first_named (language_name language) ≡ Some language
its_own English = refl
its_own Arabic = refl
its_own Danish = refl
its_own Dutch = refl
its_own Finnish = refl
its_own French = refl
its_own German = refl
its_own Italian = refl
its_own Korean = refl
its_own Norwegian = refl
its_own Portuguese = refl
its_own Romanian = refl
its_own Russian = refl
its_own Spanish = refl
its_own Swedish = refl
its_own Turkish = refl

some_same : {X : Type 0} (x y : X) → Some x ≡ Some y → x ≡ y
some_same x y e = cc

pub same_name : (a b : AnyLanguage) → language_name a ≡ language_name b → a ≡ b
same_name a b same = some_same a b (sym (its_own a) ∙ (ap first_named same ∙ its_own b))
