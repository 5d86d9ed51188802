-- The kinds of stages of the languages, and what a script holds of a language: what it
-- holds of its stages, and its stemmer.
use Rattle.std.specs.Prelude.{◌≡◌, ◌↔◌, List, [], ◌∷◌, ◌++◌, map, codes, string_bytes, Option, None}
use Rattle.std.specs.Prelude.{Some, IsSomeAnd, MatchOption, IsTrue, option_to_list}
use Rattle.std.specs.List.{filter_map, AllZip}
use Rattle.std.specs.Str.{all_scalars}
use Rattle.serde_json.specs.Data.{Data}
use Rattle.elasticlunr_text.specs.Text.{Text, Bytes}
use Rattle.elasticlunr_text.specs.Arabic.{arabic_stem}
use Rattle.elasticlunr_text.specs.Stems.{Stem}
use Rattle.elasticlunr_text.specs.StopWords.{filter_name, without}
use Rattle.elasticlunr_text.specs.Trimmed.{trimmed, is_word_char}
use Rattle.elasticlunr_text.specs.Trimmers.{trimmer_name, cut_to_class}
use Rattle.elasticlunr_text.specs.TableStemmers.{stemmer_name, table_stem}
use Rattle.elasticlunr_text.specs.declared.lang.common.stop_words.StopWordFilter.{StopWordFilter}
use Rattle.elasticlunr_text.specs.declared.lang.common.table_stemmer.TableStemmer as table
use Rattle.elasticlunr_text.specs.declared.lang.common.trimmer.RegexTrimmer.{RegexTrimmer}
use Rattle.elasticlunr_text.specs.declared.pipeline.stage.Stage.{Stage}
use Rattle.elasticlunr_text.specs.declared.pipeline.stage.Stage.TheVariants.{EnglishTrimmer}
use Rattle.elasticlunr_text.specs.declared.pipeline.stage.Stage.TheVariants.{StopWords, Class}
use Rattle.elasticlunr_text.specs.declared.pipeline.stage.Stage.TheVariants.{EnglishStemmer}
use Rattle.elasticlunr_text.specs.declared.pipeline.stage.Stage.TheVariants.{ArabicStemmer, Keep}
use Rattle.elasticlunr_text.specs.declared.pipeline.stage.Stage.TheVariants.{TableStemmer}
use Rattle.elasticlunr_text.specs.declared.pipeline.stage.Stage.TheVariants.{Function, Own}
use Rattle.elasticlunr_lang.specs.declared.any.AnyLanguage.TheVariants.{English}
use Rattle.elasticlunr_browser.specs.Languages.{script_stages, script_leaves}
use Rattle.elasticlunr_browser.specs.Stages.{IsFilter, IsTrimmer, IsArabic, keep_data}
use Rattle.elasticlunr_browser.specs.Stemmers.{stemmer_of}
use Rattle.elasticlunr_browser.specs.declared.language.ScriptLanguage.{ScriptLanguage}
use Rattle.elasticlunr_browser.specs.declared.language.ScriptLanguage.TheVariants.{BuiltIn}

-- a stage that the library has
pub data Kind : Type 0 where
  english_trimmer : Kind
  stop_words : StopWordFilter → Kind
  trimmer : RegexTrimmer → Kind
  english_stemmer : Kind
  arabic_stemmer : Kind
  table_stemmer : table.TableStemmer → Kind
  keep : Bytes → Kind

-- its name
abbrev pub kind_name : Kind → Bytes
kind_name english_trimmer = codes "trimmer"
kind_name (stop_words filter) = filter_name filter
kind_name (trimmer class) = trimmer_name class
kind_name english_stemmer = codes "stemmer"
kind_name arabic_stemmer = codes "stemmer-ar"
kind_name (table_stemmer stemmer) = stemmer_name stemmer
kind_name (keep name) = name

-- what it may make of a token
abbrev pub KindLeaves : Kind → Text → Option Text → Type 0
KindLeaves english_trimmer token left = left ≡ Some (trimmed is_word_char token)
KindLeaves (stop_words filter) token left = left ≡ without filter token
KindLeaves (trimmer class) token left = left ≡ cut_to_class class token
KindLeaves english_stemmer token left = IsSomeAnd left (Stem token)
KindLeaves arabic_stemmer token left = left ≡ arabic_stem token
KindLeaves (table_stemmer stemmer) token left = left ≡ table_stem stemmer token
KindLeaves (keep name) token left = left ≡ Some token

-- what several may make of a token, one after the other: what one drops stays dropped
abbrev pub KindsLeave : List Kind → Text → Option Text → Type 0
KindsLeave [] token left = left ≡ Some token
KindsLeave (kind ∷ kinds) token left = (first : Option Text) × KindLeaves kind token first
    × MatchOption first (left ≡ None) (λ t. KindsLeave kinds t left)

-- what a script holds of a kind: nothing of those of English, which elasticlunr.js has, and of the
-- stemmer of a table, which it holds with the language
abbrev pub HoldsKind : Kind → Option Data → Type 0
HoldsKind english_trimmer d = d ≡ None
HoldsKind (stop_words filter) d = IsSomeAnd d (IsFilter filter)
HoldsKind (trimmer class) d = IsSomeAnd d (IsTrimmer class)
HoldsKind english_stemmer d = d ≡ None
HoldsKind arabic_stemmer d = IsSomeAnd d IsArabic
HoldsKind (table_stemmer stemmer) d = d ≡ None
HoldsKind (keep name) d = IsSomeAnd d (λ value. value ≡ keep_data name)

-- what it holds of several, in order
abbrev pub HoldsKinds : List Kind → List Data → Type 0
HoldsKinds kinds ds = (each : List (Option Data)) × AllZip HoldsKind kinds each
    × (ds ≡ filter_map (λ d. d) each)

-- these are stages of the language: they have the names of its stages, and make of each token what
-- it makes
pub record AreStagesOf (language : ScriptLanguage) (kinds : List Kind) : Type 0 where
  pub names : map kind_name kinds ≡ script_stages language
  pub leave : (token : Text) (left : Option Text) → IsTrue (all_scalars token)
      → KindsLeave kinds token left ↔ script_leaves language token left

-- what a script holds of a language: nothing of English, whose stages elasticlunr.js has, and of
-- another one what it holds of its stages, and then its stemmer, if it has a table
abbrev pub HoldsLanguage : ScriptLanguage → List Data → Type 0
HoldsLanguage (BuiltIn English) ds = ds ≡ []
HoldsLanguage language ds = (kinds : List Kind) × (its : List Data) × AreStagesOf language kinds
    × HoldsKinds kinds its × (ds ≡ its ++ option_to_list (stemmer_of language))

-- what it holds of several, in order
abbrev pub HoldsLanguages : List ScriptLanguage → List Data → Type 0
HoldsLanguages [] ds = ds ≡ []
HoldsLanguages (language ∷ languages) ds =
    (its : List Data) × (others : List Data) × HoldsLanguage language its
    × HoldsLanguages languages others × (ds ≡ its ++ others)

-- the kind of a stage that is no custom one
abbrev pub kind_of : {f x p calls : _} → Stage f x p calls → Option Kind
kind_of EnglishTrimmer = Some english_trimmer
kind_of (StopWords filter) = Some (stop_words filter)
kind_of (Class class) = Some (trimmer class)
kind_of EnglishStemmer = Some english_stemmer
kind_of ArabicStemmer = Some arabic_stemmer
kind_of (TableStemmer stemmer) = Some (table_stemmer stemmer)
kind_of (Keep name) = Some (keep (string_bytes name))
kind_of (Function wrapper) = None
kind_of (Own step) = None

-- what a script holds of a stage: what it holds of its kind, and nothing of a custom stage
abbrev pub HoldsStage : {f x p calls : _} → Stage f x p calls → Option Data → Type 0
HoldsStage stage d = MatchOption (kind_of stage) (d ≡ None) (λ kind. HoldsKind kind d)

-- what it holds of several, in order
abbrev pub HoldsStages : {f x p calls : _} → List (Stage f x p calls) → List Data → Type 0
HoldsStages stages ds = (each : List (Option Data)) × AllZip HoldsStage stages each
    × (ds ≡ filter_map (λ d. d) each)
