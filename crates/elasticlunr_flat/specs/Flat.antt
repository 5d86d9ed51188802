-- The flat form: what is indexed and what is searched for, their bytes, and what of them has such
-- bytes.
use Rattle.std.specs.Prelude.{ℕ, ◌<◌, ◌^◌, Bool, true, false, List, ◌++◌, length, All, IsUtf8}
use Rattle.std.specs.List.{flat_map}
use Rattle.std.specs.Int.{w32, to_le_bytes}
use Rattle.elasticlunr_error.specs.Text.{Bytes}

-- ---- what is indexed

-- a built-in language by its name, a custom one with the names of its stages, or a built-in one with
-- its stemmer after its stages
pub data Language : Type 0 where
  built_in : Bytes → Language
  own : Bytes → List Bytes → Language
  stemmed : Bytes → Language

-- the tokens of a value: produced of its text, given into the pipeline, or given as they are
pub data Tokens : Type 0 where
  from_text : Tokens
  into_pipeline : List Bytes → Tokens
  as_given : List Bytes → Tokens

pub record Value : Type 0 where
  pub text : Bytes
  pub tokens : Tokens

pub record Document : Type 0 where
  pub reference : Bytes
  pub values : List Value

pub record Input : Type 0 where
  pub language : Language
  pub reference_field : Bytes
  pub save : Bool
  pub fields : List Bytes
  pub documents : List Document

-- documents whose index is cut into pieces: the field of the titles, how many bytes a piece may
-- have, and the documents
pub record Cutting : Type 0 where
  pub title : Bytes
  pub size : ℕ
  pub input : Input

-- ---- what is searched for

-- which words of the query a document must have: one of them, each in one field, or each in some
pub data Needed : Type 0 where
  one : Needed
  each_in_one_field : Needed
  each : Needed

-- none of the fields is all of them, and a limit of 0 is none
pub record Search : Type 0 where
  pub query : Bytes
  pub needed : Needed
  pub expand : Bool
  pub fields : List Bytes
  pub boosts : List (Bytes × ℕ)
  pub limit : ℕ

-- ---- their bytes

-- four bytes, the lowest first
unfoldable pub flat_number : ℕ → Bytes
flat_number n = to_le_bytes w32 n

-- the number of its bytes, and then the bytes
abbrev pub flat_text : Bytes → Bytes
flat_text text = flat_number (length text) ++ text

-- the number of its items, and then each of them
abbrev pub flat_list : {A : Type 0} → (A → Bytes) → List A → Bytes
flat_list flat items = flat_number (length items) ++ flat_map flat items

abbrev pub flat_texts : List Bytes → Bytes
flat_texts texts = flat_list flat_text texts

-- 0 for false, 1 for true
abbrev pub flat_truth : Bool → Bytes
flat_truth false = flat_number 0
flat_truth true = flat_number 1

-- its kind, its name, and the names of a custom one's stages
abbrev pub flat_language : Language → Bytes
flat_language (built_in name) = flat_number 0 ++ flat_text name
flat_language (own name stages) = flat_number 1 ++ flat_text name ++ flat_texts stages
flat_language (stemmed name) = flat_number 2 ++ flat_text name

-- their kind, and those that are given
abbrev pub flat_tokens : Tokens → Bytes
flat_tokens from_text = flat_number 0
flat_tokens (into_pipeline tokens) = flat_number 1 ++ flat_texts tokens
flat_tokens (as_given tokens) = flat_number 2 ++ flat_texts tokens

abbrev pub flat_value : Value → Bytes
flat_value value = flat_text value.text ++ flat_tokens value.tokens

abbrev pub flat_document : Document → Bytes
flat_document document = flat_text document.reference ++ flat_list flat_value document.values

-- an input is all of the bytes: nothing follows its last document
abbrev pub flat_input : Input → Bytes
flat_input input = flat_language input.language ++ flat_text input.reference_field
    ++ flat_truth input.save ++ flat_texts input.fields
    ++ flat_list flat_document input.documents

abbrev pub flat_cutting : Cutting → Bytes
flat_cutting cutting = flat_text cutting.title ++ (flat_number cutting.size
    ++ flat_input cutting.input)

-- the first, and then the second
abbrev pub flat_pair : {A B : Type 0} → (A → Bytes) → (B → Bytes) → A × B → Bytes
flat_pair flat_first flat_second pair = flat_first pair.0 ++ flat_second pair.1

abbrev pub needed_number : Needed → ℕ
needed_number one = 0
needed_number each_in_one_field = 1
needed_number each = 2

abbrev pub flat_needed : Needed → Bytes
flat_needed needed = flat_number (needed_number needed)

-- a field, and its boost
abbrev pub flat_boost : Bytes × ℕ → Bytes
flat_boost = flat_pair flat_text flat_number

abbrev pub flat_search : Search → Bytes
flat_search search = flat_text search.query ++ (flat_needed search.needed
    ++ (flat_truth search.expand ++ (flat_texts search.fields
    ++ (flat_list flat_boost search.boosts ++ flat_number search.limit))))

-- ---- what has a flat form: numbers of 32 bits, boosts of 8, and texts in UTF-8

abbrev pub IsNumber : ℕ → Type 0
IsNumber n = n < 2 ^ 32

abbrev pub IsText : Bytes → Type 0
IsText text = IsUtf8 text × IsNumber (length text)

abbrev pub IsList : {A : Type 0} → (A → Type 0) → List A → Type 0
IsList Fits items = IsNumber (length items) × All Fits items

abbrev pub AreTexts : List Bytes → Type 0
AreTexts texts = IsList IsText texts

abbrev pub IsLanguage : Language → Type 0
IsLanguage (built_in name) = IsText name
IsLanguage (own name stages) = IsText name × AreTexts stages
IsLanguage (stemmed name) = IsText name

abbrev pub AreTokens : Tokens → Type 0
AreTokens from_text = Unit {0}
AreTokens (into_pipeline tokens) = AreTexts tokens
AreTokens (as_given tokens) = AreTexts tokens

pub record IsValue (value : Value) : Type 0 where
  pub text : IsText value.text
  pub tokens : AreTokens value.tokens

pub record IsDocument (document : Document) : Type 0 where
  pub reference : IsText document.reference
  pub values : IsList IsValue document.values

pub record IsInput (input : Input) : Type 0 where
  pub language : IsLanguage input.language
  pub reference_field : IsText input.reference_field
  pub fields : AreTexts input.fields
  pub documents : IsList IsDocument input.documents

pub record IsCutting (cutting : Cutting) : Type 0 where
  pub title : IsText cutting.title
  pub size : IsNumber cutting.size
  pub input : IsInput cutting.input

abbrev pub IsByte : ℕ → Type 0
IsByte n = n < 2 ^ 8

abbrev pub IsPair : {A B : Type 0} → (A → Type 0) → (B → Type 0) → A × B → Type 0
IsPair FirstFits SecondFits pair = FirstFits pair.0 × SecondFits pair.1

abbrev pub IsBoost : Bytes × ℕ → Type 0
IsBoost = IsPair IsText IsByte

pub record IsSearch (search : Search) : Type 0 where
  pub query : IsText search.query
  pub fields : AreTexts search.fields
  pub boosts : IsList IsBoost search.boosts
  pub limit : IsNumber search.limit
