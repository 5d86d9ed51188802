-- What an index is built with, and what it then reads of values.
use Rattle.std.specs.Prelude.{◌≡◌, ◌≢◌, ℕ, List, [], ◌∷◌, ◌++◌, map, Bool, true, Option, None, Some}
use Rattle.std.specs.Prelude.{slice_get, IsTrue, codes}
use Rattle.std.specs.List.{AllByRecursion}
use Rattle.std.specs.Str.{chars, all_scalars}
use Rattle.elasticlunr_text.specs.Text.{Text, Bytes}
use Rattle.elasticlunr_commands.specs.Standing.{Plan}

-- The language, the pipeline, the fields in order with the custom tokenizer of each, the field of
-- the reference, and whether documents are saved. The types are those of languages, pipelines and
-- tokenizers.
pub record Choices (L P T : Type 0) : Type 0 where
  pub language : L
  pub pipeline : P
  pub fields : List Bytes
  pub tokenizers : List (Option T)
  pub reference_field : Bytes
  pub save : Bool

-- how an index of these fields is printed that saves its documents under the reference field `id`
abbrev pub fields_plan : (language : Bytes) (stages fields : List Bytes) → Plan
fields_plan language stages fields = record {
  fields = fields;
  reference_field = codes "id";
  save =
      true;
  language = language;
  stages = stages;
}

-- the same of a language; `name_of` is what it is called, `stages_of` what its stages are
abbrev pub new_plan : {L : Type 0} (name_of : L → Bytes) (stages_of : L → List Bytes) → L
    → (fields : List Bytes) → Plan
new_plan name_of stages_of language fields = fields_plan (name_of language) (stages_of language)
    fields

module _ {L P T : Type 0} where
  -- what a builder of a language begins with: no custom pipeline, no fields, the reference field
  -- `id`, and documents are saved
  abbrev pub beginning : L → Choices L (Option P) T
  beginning language = record {
    language = language;
    pipeline = None;
    fields = [];
    tokenizers =
        [];
    reference_field = codes "id";
    save = true;
  }

  -- one more field, with a custom tokenizer or none
  abbrev pub with_field : Bytes → Option T → Choices L P T → Choices L P T
  with_field name tokenizer c = record c {
    fields = c.fields ++ name
        ∷ [];
    tokenizers = c.tokenizers ++ tokenizer ∷ [];
  }

  -- more fields, without custom tokenizers
  abbrev pub with_fields : List Bytes → Choices L P T → Choices L P T
  with_fields names c = record c {
    fields = c.fields ++ names;
    tokenizers = c.tokenizers ++ map
        (λ _. None) names;
  }

  -- the one has what the other has, but for the pipeline
  pub record IsBuiltBy {Q : Type 0} (given : Choices L (Option Q) T) (built : Choices L P T) : Type
      0 where
    pub language : built.language ≡ given.language
    pub fields : built.fields ≡ given.fields
    pub tokenizers : built.tokenizers ≡ given.tokenizers
    pub reference_field : built.reference_field ≡ given.reference_field
    pub save : built.save ≡ given.save

  -- nothing but the language and the fields was chosen
  pub record HasOnlyFields (language : L) (names : List Bytes) (built : Choices L P T) : Type 0
    where
      pub its_language : built.language ≡ language
      pub fields : built.fields ≡ names
      pub tokenizers : built.tokenizers ≡ map (λ _. None) names
      pub reference_field : built.reference_field ≡ codes "id"
      pub save : built.save ≡ true

  -- neither a pipeline nor a tokenizer was given
  pub record UsesLanguage (given : Choices L (Option P) T) : Type 0 where
    pub no_pipeline : given.pipeline ≡ None
    pub no_tokenizer : (i : ℕ) (tokenizer : T)
        → slice_get given.tokenizers i ≢ Some (Some tokenizer)

  -- what is printed of these; `name_of` is what a language is called, `names` what the stages of a
  -- pipeline are
  abbrev pub plan_with : (name_of : L → Bytes) (names : P → List Bytes) → Choices L P T → Plan
  plan_with name_of names c = record {
    fields = c.fields;
    reference_field = c.reference_field;
    save
        = c.save;
    language = name_of c.language;
    stages = names c.pipeline;
  }

  -- what is printed where no pipeline was given: the stages are the language's
  abbrev pub language_plan : (name_of : L → Bytes) (stages_of : L → List Bytes)
      → Choices L (Option P) T → Plan
  language_plan name_of stages_of given = record {
    fields = given.fields;
    reference_field =
        given.reference_field;
    save = given.save;
    language = name_of given.language;
    stages =
        stages_of given.language;
  }

module _ {L T : Type 0} (tokens_of : L → Text → List Text) (answers : T → Bytes → List Text
    → Type 0) where
  -- these tokens are made of the value at a place of the list of tokenizers: by the tokenizer
  -- there, or else by the language
  abbrev pub IsMadeAt : L → (place : Option (Option T)) → Bytes → List Text → Type 0
  IsMadeAt language None value made = ⊥
  IsMadeAt language (Some None) value made = made ≡ tokens_of language (chars value)
  IsMadeAt language (Some (Some tokenizer)) value made = answers tokenizer value made

  -- the pipeline may make these tokens of those that are made of the value for the field of this
  -- number
  pub record Reads {P : Type 0} (runs : P → List Text → List Text → Type 0) (c : Choices L P T)
      (i : ℕ) (value : Bytes) (tokens : List Text) : Type 0 where
    pub made : List Text
    pub are_texts : AllByRecursion (λ token. IsTrue (all_scalars token)) made
    pub tokenized : IsMadeAt c.language (slice_get c.tokenizers i) value made
    pub left : runs c.pipeline made tokens
