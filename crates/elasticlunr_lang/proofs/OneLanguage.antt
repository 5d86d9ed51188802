-- A name names one language, and a language leaves one answer of a token.
use Rattle.std.proofs.Common.{◌≡◌, Option, None, Some, IsSomeAnd, bytes_eq, refl, sym, ap, ◌∙◌}
use Rattle.std.specs.List.{find}
use Rattle.elasticlunr_text.specs.Text.{Text, Bytes}
use Rattle.elasticlunr_text.specs.Stems.{Stem}
use Rattle.elasticlunr_text.specs.Trimmed.{is_word_char, trimmed}
use Rattle.elasticlunr_text.proofs.OneStem.{one-Stem}
use Rattle.elasticlunr_lang.specs.Classes.{unless_listed}
use Rattle.elasticlunr_lang.specs.Languages.{StemOf}
use Rattle.elasticlunr_lang.specs.StopWords.{language_stop_words}
use Rattle.elasticlunr_lang.specs.Known.{all_languages, language_name, language_leaves}
use Rattle.elasticlunr_lang.specs.declared.any.AnyLanguage.{AnyLanguage}
use Rattle.elasticlunr_lang.specs.declared.any.AnyLanguage.TheVariants.{English, Arabic, Danish, Dutch, Finnish, French}
use Rattle.elasticlunr_lang.specs.declared.any.AnyLanguage.TheVariants.{German, Italian, Korean, Norwegian, Portuguese}
use Rattle.elasticlunr_lang.specs.declared.any.AnyLanguage.TheVariants.{Romanian, Russian, Spanish, Swedish, Turkish}

-- the first language of this name
abbrev first_named : Bytes → Option AnyLanguage
first_named name = find (λ language. bytes_eq (language_name language) name) all_languages

first_named-name : (language : AnyLanguage) → first_named (language_name language) ≡ Some language
first_named-name English = refl
first_named-name Arabic = refl
first_named-name Danish = refl
first_named-name Dutch = refl
first_named-name Finnish = refl
first_named-name French = refl
first_named-name German = refl
first_named-name Italian = refl
first_named-name Korean = refl
first_named-name Norwegian = refl
first_named-name Portuguese = refl
first_named-name Romanian = refl
first_named-name Russian = refl
first_named-name Spanish = refl
first_named-name Swedish = refl
first_named-name Turkish = refl

pub same-language_name : (one other : AnyLanguage) → language_name one ≡ language_name other → one ≡ other
same-language_name one other same =
    let found : Some one ≡ Some other = sym (first_named-name one) ∙ (ap first_named same ∙ first_named-name other) in
    cc

one_some : (word : Text) (left other : Option Text) → IsSomeAnd left (Stem word) → IsSomeAnd other (Stem word) → left
    ≡ other
one_some word None other is also = absurd is
one_some word (Some u) None is also = absurd also
one_some word (Some u) (Some v) is also = ap Some (one-Stem word u v is also)

one-StemOf : (text left other : Option Text) → StemOf text left → StemOf text other → left ≡ other
one-StemOf None left other is also = is ∙ sym also
one-StemOf (Some word) left other is also = one_some word left other is also

pub one-language_leaves : (language : AnyLanguage) (token : Text) (left other : Option Text)
    → language_leaves language token left → language_leaves language token other → left ≡ other
one-language_leaves English token left other is also =
    one-StemOf (unless_listed (language_stop_words English) (trimmed is_word_char token)) left other is also
one-language_leaves Arabic token left other is also = is ∙ sym also
one-language_leaves Danish token left other is also = is ∙ sym also
one-language_leaves Dutch token left other is also = is ∙ sym also
one-language_leaves Finnish token left other is also = is ∙ sym also
one-language_leaves French token left other is also = is ∙ sym also
one-language_leaves German token left other is also = is ∙ sym also
one-language_leaves Italian token left other is also = is ∙ sym also
one-language_leaves Korean token left other is also = is ∙ sym also
one-language_leaves Norwegian token left other is also = is ∙ sym also
one-language_leaves Portuguese token left other is also = is ∙ sym also
one-language_leaves Romanian token left other is also = is ∙ sym also
one-language_leaves Russian token left other is also = is ∙ sym also
one-language_leaves Spanish token left other is also = is ∙ sym also
one-language_leaves Swedish token left other is also = is ∙ sym also
one-language_leaves Turkish token left other is also = is ∙ sym also
