-- Languages by their names, as a loop over the names finds them.
use Rattle.std.proofs.Common.{◌≡◌, ◌≢◌, ◌<◌, ◌+◌, ℕ, length, take, get_or, List, [], ◌∷◌, ◌++◌, Bor, Option, Some, None}
use Rattle.std.proofs.Common.{IfSome, Result, Ok, Err, map, refl, sym, ap, subst, ◌∙◌, arith}
use Rattle.std.specs.Prelude.{IfOk}
use Rattle.std.specs.List.{All, AllZip, Any}
use Rattle.std.proofs.lemmas.List.{get_or-map, length-map, map-append, take_more}
use Rattle.elasticlunr_text.specs.Text.{Bytes}
use Rattle.elasticlunr_lang.specs.Known.{all_languages, language_name}
use Rattle.elasticlunr_lang.specs.declared.any.AnyLanguage.TheVariants.{English, Arabic, Danish, Dutch, Finnish, French}
use Rattle.elasticlunr_lang.specs.declared.any.AnyLanguage.TheVariants.{German, Italian, Korean, Norwegian, Portuguese}
use Rattle.elasticlunr_lang.specs.declared.any.AnyLanguage.TheVariants.{Romanian, Russian, Spanish, Swedish, Turkish}
use Rattle.elasticlunr_stem_languages.specs.Hungarian.{hungarian_name}
use Rattle.elasticlunr_browser.specs.Languages.{script_languages, script_name}
use Rattle.elasticlunr_browser.specs.declared.language.ScriptLanguage.{ScriptLanguage}
use Rattle.elasticlunr_browser.specs.declared.language.ScriptLanguage.TheVariants.{BuiltIn, Hungarian}
use Rattle.elasticlunr_browser.specs.Named.{IsNameOf, IsNoName, AreNamed}
use Rattle.elasticlunr_browser.proofs.StageLemmas.{push_both}

-- what no built-in language has for a name, and is not that of Hungarian, none has
pub no_name : (name : Bytes) → All (λ language. language_name language ≢ name) all_languages → hungarian_name ≢ name
    → IsNoName name
no_name name none other (BuiltIn English) = none 0 English (omega arith)
no_name name none other (BuiltIn Arabic) = none 1 Arabic (omega arith)
no_name name none other (BuiltIn Danish) = none 2 Danish (omega arith)
no_name name none other (BuiltIn Dutch) = none 3 Dutch (omega arith)
no_name name none other (BuiltIn Finnish) = none 4 Finnish (omega arith)
no_name name none other (BuiltIn French) = none 5 French (omega arith)
no_name name none other (BuiltIn German) = none 6 German (omega arith)
no_name name none other (BuiltIn Italian) = none 7 Italian (omega arith)
no_name name none other (BuiltIn Korean) = none 8 Korean (omega arith)
no_name name none other (BuiltIn Norwegian) = none 9 Norwegian (omega arith)
no_name name none other (BuiltIn Portuguese) = none 10 Portuguese (omega arith)
no_name name none other (BuiltIn Romanian) = none 11 Romanian (omega arith)
no_name name none other (BuiltIn Russian) = none 12 Russian (omega arith)
no_name name none other (BuiltIn Spanish) = none 13 Spanish (omega arith)
no_name name none other (BuiltIn Swedish) = none 14 Swedish (omega arith)
no_name name none other (BuiltIn Turkish) = none 15 Turkish (omega arith)
no_name name none other Hungarian = other

abbrev pub texts_of_all : List (Bor (List ℕ)) → List Bytes
texts_of_all names = map (λ name. name.now) names

-- one that no language has
pub unknown_at : (names : List (Bor (List ℕ))) (k : ℕ) (d : Bor (List ℕ)) → k < length names
    → IsNoName (get_or names k d).now
    → Any IsNoName (texts_of_all names)
unknown_at names k d inside none = (
  k,
  (get_or names k d).now,
  rw (length-map names (λ name. name.now)) inside,
  get_or-map (λ name. name.now) names k d
      _ inside,
  none,
)

-- one language more
pub one_named : (names : List (Bor (List ℕ))) (k : ℕ) (d : Bor (List ℕ)) (old new : List ScriptLanguage)
    (language : ScriptLanguage) → k < length names
    → AllZip IsNameOf (texts_of_all (take k names)) old → script_name language ≡ (get_or names k d).now → new
    ≡ old ++ language ∷ [] → AllZip IsNameOf (texts_of_all (take (k + 1) names)) new
one_named names k d old new language inside are is put =
    let more : texts_of_all (take (k + 1) names) ≡ texts_of_all (take k names) ++ (get_or names k d).now ∷ [] =
    ap texts_of_all (take_more names k d inside) ∙ map-append (λ name. name.now) (take k names) (get_or names k d ∷ [])
    in
    subst (AllZip IsNameOf (texts_of_all (take (k + 1) names))) (sym put)
    (subst (λ lines. AllZip IsNameOf lines (old ++ language ∷ [])) (sym more)
    (push_both IsNameOf (texts_of_all (take k names)) old (get_or names k d).now language are is))

-- without a line all languages are chosen, and with one those of the lines
pub all_named : (lines : List Bytes) (each : List (Bor (List ℕ))) (chosen : List ScriptLanguage) → texts_of_all each
    ≡ lines → length each ≡ 0 → chosen ≡ script_languages → AreNamed lines chosen
all_named lines [] chosen are none is = subst (λ ls. AreNamed ls chosen) are is
all_named lines (l ∷ each) chosen are none is = absurd (omega (arith, none))

pub each_named : (lines : List Bytes) (each : List (Bor (List ℕ))) (chosen : List ScriptLanguage) → texts_of_all each
    ≡ lines → length each ≢ 0 → AllZip IsNameOf (texts_of_all each) chosen → AreNamed lines chosen
each_named lines [] chosen are some is = absurd (some refl)
each_named lines (l ∷ each) chosen are some is = subst (λ ls. AreNamed ls chosen) are is

-- what was found for the names of the lines is what was named
pub chosen_by : {V F : Type 0} (chosen_of : V → List ScriptLanguage) (r : Result (Option V) F) (lines : List Bytes)
    (each : List (Bor (List ℕ))) → texts_of_all each ≡ lines → length each ≢ 0
    → IfOk r (λ found. IfSome found (λ chosen. AllZip IsNameOf (texts_of_all each) (chosen_of chosen)))
    → IfOk r (λ found. IfSome found (λ chosen. AreNamed lines (chosen_of chosen)))
chosen_by chosen_of (Ok (Some chosen)) lines each are some is = each_named lines each (chosen_of chosen) are some is
chosen_by chosen_of (Ok None) lines each are some is = is
chosen_by chosen_of (Err e) lines each are some is = is
