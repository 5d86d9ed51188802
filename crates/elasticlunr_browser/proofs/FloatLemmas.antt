-- No number of a script is a float.
use Rattle.std.proofs.Common.{◌≡◌, ◌||◌, ℕ, false, List, [], ◌∷◌, ◌++◌, map, Option, None, Some, refl, ap, ◌∙◌, subst}
use Rattle.std.proofs.Common.{sym, option_map, option_to_list}
use Rattle.std.specs.List.{AllZip, filter_map}
use Rattle.serde_json.specs.Data.{Data, number, unsigned, string}
use Rattle.serde_json.specs.View.{items_of}
use Rattle.serde_json.specs.Written.{has_float, items_have_float}
use Rattle.elasticlunr_text.specs.Text.{Bytes, bytes_of}
use Rattle.elasticlunr_browser.specs.declared.language.ScriptLanguage.{ScriptLanguage}
use Rattle.elasticlunr_browser.specs.declared.language.ScriptLanguage.TheVariants.{BuiltIn}
use Rattle.elasticlunr_lang.specs.declared.any.AnyLanguage.TheVariants.{English}
use Rattle.elasticlunr_browser.specs.Facts.{IsFacts}
use Rattle.elasticlunr_browser.specs.Kinds.{Kind, english_trimmer, stop_words, trimmer, english_stemmer, arabic_stemmer, table_stemmer}
use Rattle.elasticlunr_browser.specs.Kinds.{keep, HoldsKind, HoldsKinds, HoldsLanguage, HoldsLanguages}
use Rattle.elasticlunr_browser.specs.Stemmers.{stemmer_data, stemmer_of}
use Rattle.elasticlunr_browser.specs.Languages.{script_table}
use Rattle.elasticlunr_stem_tables.specs.declared.language.Language.{Language}

-- none of these values has a float
abbrev HaveNone : List Data → Type 0
HaveNone [] = Unit {0}
HaveNone (d ∷ ds) = (has_float d ≡ false) × HaveNone ds

none-append : (ds others : List Data) → HaveNone ds → HaveNone others → HaveNone (ds ++ others)
none-append [] others none more = more
none-append (d ∷ ds) others none more = (none.0, none-append ds others none.1 more)

none-items : (ds : List Data) → HaveNone ds → items_have_float (items_of ds) ≡ false
none-items [] none = refl
none-items (d ∷ ds) none = ap (λ b. b || items_have_float (items_of ds)) none.0 ∙ none-items ds none.1

none-numbers : (ns : List ℕ) → items_have_float (items_of (map (λ n. number (unsigned n)) ns)) ≡ false
none-numbers [] = refl
none-numbers (n ∷ ns) = none-numbers ns

none-texts : (ss : List Bytes) → items_have_float (items_of (map string ss)) ≡ false
none-texts [] = refl
none-texts (s ∷ ss) = none-texts ss

none-kind : (kind : Kind) (d : Data) → HoldsKind kind (Some d) → has_float d ≡ false
none-kind english_trimmer d is = (cc)
none-kind (stop_words filter) d is = ap has_float is.value ∙ ap (λ b. b || false) (none-texts (bytes_of is.words))
none-kind (trimmer class) d is = ap has_float is.value ∙ ap (λ b. b || false) (none-numbers is.marks)
none-kind english_stemmer d is = (cc)
none-kind arabic_stemmer d is = ap has_float is.value
    ∙ (ap (λ b. b || (items_have_float (items_of (map (λ n. number (unsigned n)) is.marks)) || false))
    (none-texts (bytes_of is.pairs)) ∙ ap (λ b. b || false) (none-numbers is.marks))
none-kind (table_stemmer stemmer) d is = (cc)
none-kind (keep name) d is = ap has_float is

none-kinds : (kinds : List Kind) (each : List (Option Data)) → AllZip HoldsKind kinds each
    → HaveNone (filter_map (λ d. d) each)
none-kinds [] [] all = tt
none-kinds [] (d ∷ each) all = absurd all
none-kinds (kind ∷ kinds) [] all = absurd all
none-kinds (kind ∷ kinds) (None ∷ each) all = none-kinds kinds each all.1
none-kinds (kind ∷ kinds) (Some d ∷ each) all = (none-kind kind d all.0, none-kinds kinds each all.1)

held : (kinds : List Kind) (ds : List Data) → HoldsKinds kinds ds → HaveNone ds
held kinds ds holds = subst HaveNone (sym holds.2) (none-kinds kinds holds.0 holds.1)

none-stemmer : (found : Option Language) → HaveNone (option_to_list (option_map stemmer_data found))
none-stemmer None = tt
none-stemmer (Some language) = (refl, tt)

none-language : (language : ScriptLanguage) (ds : List Data) → HoldsLanguage language ds → HaveNone ds
none-language (BuiltIn English) ds holds = subst HaveNone (sym holds) tt
none-language language ds holds =
    let (kinds, its, are, all, is) = holds in
    subst HaveNone (sym is) (none-append its (option_to_list (stemmer_of language)) (held kinds its all)
    (none-stemmer (script_table language)))

none-languages : (languages : List ScriptLanguage) (ds : List Data) → HoldsLanguages languages ds → HaveNone ds
none-languages [] ds holds = subst HaveNone (sym holds) tt
none-languages (language ∷ languages) ds holds =
    let (its, others, one, more, is) = holds in
    subst HaveNone (sym is) (none-append its others (none-language language its one)
    (none-languages languages others more))

pub none-facts : (languages : List ScriptLanguage) (stages : List Data) (d : Data) → HoldsLanguages languages stages
    → IsFacts stages d → has_float d ≡ false
none-facts languages stages d holds is =
    let listed = items_have_float (items_of stages) in
    ap has_float is.value
    ∙ (ap (λ b. b || (items_have_float (items_of (map string (bytes_of is.pairs))) || (listed || false)))
    (none-numbers is.marks)
    ∙ (ap (λ b. b || (listed || false)) (none-texts (bytes_of is.pairs))
    ∙ ap (λ b. b || false) (none-items stages (none-languages languages stages holds))))
