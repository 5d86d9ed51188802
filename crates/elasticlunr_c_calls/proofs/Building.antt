-- The index that is built for an input.
use Rattle.std.proofs.Common.{◌≡◌, ◌≢◌, ◌⊎◌, ℕ, zero, suc, List, [], ◌∷◌, ◌++◌, Bor, map, Option, None, Some, slice_get}
use Rattle.std.proofs.Common.{IfNone, IsSomeAnd, Result, false, inl, inr, refl, sym, ap, subst, ◌∙◌, option_map}
use Rattle.std.proofs.lemmas.Option.{slice_get-map}
use Rattle.std.proofs.lemmas.Result.{err_from_is_err_and}
use Rattle.std.specs.Prelude.{IfErr}
use Rattle.std.specs.Result.{IsErrAnd}
use Rattle.std.specs.Str.{chars}
use Rattle.elasticlunr_text.specs.IndexError.{IndexError}
use Rattle.elasticlunr_text.specs.IndexError.TheVariants as index
use Rattle.elasticlunr_text.specs.Text.{Text, Bytes, word_texts}
use Rattle.elasticlunr.specs.Choices.{Choices, beginning, with_fields, language_plan, IsBuiltBy, UsesLanguage}
use Rattle.elasticlunr.specs.Documents as documents
use Rattle.elasticlunr.specs.Fields.{all_differ}
use Rattle.elasticlunr.specs.GivenTokens.{MayHave, MayHaveAt, value_texts}
use Rattle.elasticlunr.specs.History.{Commands, Document, none}
use Rattle.elasticlunr.specs.Reading.{LanguageLeaves, LanguageReads, ReadsOnly}
use Rattle.elasticlunr.specs.Standing.{Plan}
use Rattle.elasticlunr.specs.Words.{words}
use Rattle.elasticlunr.specs.declared.values.FieldValue.{FieldValue}
use Rattle.elasticlunr.specs.declared.values.TokenSource.{TokenSource}
use Rattle.elasticlunr.specs.declared.values.TokenSource.TheVariants.{AsGiven, FromText, IntoPipeline}
use Rattle.elasticlunr.proofs.Calling.{document_more}
use Rattle.elasticlunr_flat.specs.Flat as flat
use Rattle.elasticlunr_flat.specs.Told.{input_told}
use Rattle.elasticlunr_flat.specs.declared.form.Input as held
use Rattle.elasticlunr_job_format.specs.IndexJobError.{job_error_of}
use Rattle.elasticlunr_job_format.specs.JobError.{StopsWithReason}
use Rattle.elasticlunr_job_format.specs.declared.outcome.JobError.{JobError}
use Rattle.elasticlunr_c_calls.specs.Carried.{field_told, source_told}
use Rattle.elasticlunr_c_calls.specs.Indexes as calls
use Rattle.elasticlunr_c_calls.specs.Indexes.{FailsAt, IsAdded, IsBuiltFor, NamesAny}
use Rattle.elasticlunr_c_calls.specs.Languages.{leaves_in, name_in, stages_in, IsNamed}
use Rattle.elasticlunr_c_calls.specs.declared.language.InputLanguage.{InputLanguage}
use Rattle.elasticlunr_c_calls.specs.declared.language.InputLanguage.TheVariants.{BuiltIn, Own, Stemmed}
use Rattle.elasticlunr_c_calls.proofs.Filling.{Makes}

-- a language that is named is there
pub names_any : (named : flat.Language) (language : InputLanguage) → IsNamed named language → NamesAny named
names_any named (BuiltIn language) is = subst NamesAny is (language, refl)
names_any named (Own name stages) is = subst NamesAny is tt
names_any named (Stemmed language) is = subst NamesAny is (language, refl)

-- the exit of the fields, where a name may stand twice
pub fields_exit : {T : Type 0} (r : Result T JobError) (input : flat.Input) (e : IndexError)
    → IsErrAnd r (λ y. y ≡ job_error_of e) → NamesAny input.language
    → (e ≡ index.DuplicateField → all_differ input.fields ≡ false) → (e ≡ index.DuplicateField) ⊎ (e ≡ index.Memory)
    → IfErr r (StopsWithReason (FailsAt input))
fields_exit r input e is named twice h =
    let p = err_from_is_err_and r is in
    rw (p.1, p.2) (elim h [ inl d ↦ rw d (named, twice d) | inr m ↦ rw m tt ])

-- what an index takes is what the flat form has
texts_carried : (values : List FieldValue) → value_texts values ≡ map (λ value. value.text) (map field_told values)
texts_carried [] = refl
texts_carried (value ∷ values) = ap (λ more. value.text.now ∷ more) (texts_carried values)

words_carried : (given : List (Bor Bytes)) → word_texts given ≡ map chars (map (λ token. token.now) given)
words_carried [] = refl
words_carried (token ∷ given) = ap (λ more. chars token.now ∷ more) (words_carried given)

module _ (language : InputLanguage) where
  abbrev Has : TokenSource → ℕ → Bytes → List Text → Type 0
  Has = MayHave (LanguageReads words (leaves_in language)) (LanguageLeaves (leaves_in language))

  has_carried : (source : TokenSource) (i : ℕ) (text : Bytes) (tokens : List Text) → Has source i text tokens
      → calls.MayHave language (source_told source) i text tokens
  has_carried FromText i text tokens has = has
  has_carried (IntoPipeline given) i text tokens has = subst (λ made. LanguageLeaves (leaves_in language) made tokens)
      (words_carried given.now) has.left
  has_carried (AsGiven given) i text tokens has = has ∙ words_carried given.now

  at_carried : (i : ℕ) (text : Bytes) (tokens : List Text) (there : Option FieldValue)
      → IsSomeAnd there (λ value. Has value.tokens i text tokens)
      → IsSomeAnd (option_map field_told there) (λ value. calls.MayHave language value.tokens i text tokens)
  at_carried i text tokens None has = has
  at_carried i text tokens (Some value) has = has_carried value.tokens i text tokens has

  -- the document that the language makes of values is the one that is added
  pub added_carried : (input : flat.Input) (given : flat.Document) (values : List FieldValue) (document : Document)
      → map field_told values ≡ given.values
      → documents.IsDocument input.fields input.reference_field (MayHaveAt (LanguageReads words (leaves_in language))
      (LanguageLeaves (leaves_in language)) values) given.reference (value_texts values) document
      → IsAdded input language given document
  added_carried input given values document are made =
      let texts : value_texts values ≡ map (λ value. value.text) given.values =
      texts_carried values ∙ ap (map (λ (value : flat.Value). value.text)) are in
      subst (λ vs. documents.IsDocument input.fields input.reference_field (calls.MayHaveAt language given.values)
      given.reference vs document) texts
      (document_more input.fields input.reference_field (MayHaveAt (LanguageReads words (leaves_in language))
      (LanguageLeaves (leaves_in language)) values) (calls.MayHaveAt language given.values)
      (λ i text tokens has. subst (λ vs. IsSomeAnd (slice_get vs i)
      (λ value. calls.MayHave language value.tokens i text tokens)) are
      (subst (λ o. IsSomeAnd o (λ value. calls.MayHave language value.tokens i text tokens))
      (sym (slice_get-map field_told values i)) (at_carried i text tokens (slice_get values i) has)))
      given.reference (value_texts values) document made)

nothing_there : {T : Type 0} (names : List Bytes) (i : ℕ) (tokenizer : T)
    → slice_get (map {A = Bytes} {B = Option T} (λ _. None) names) i ≢ Some (Some tokenizer)
nothing_there [] i tokenizer e = cc
nothing_there (name ∷ names) zero tokenizer e = cc
nothing_there (name ∷ names) (suc i) tokenizer e = nothing_there names i tokenizer e

module _ {L P T : Type 0} where
  -- what the builder of an input is given before the fields
  abbrev pub begun : flat.Input → L → Choices L (Option P) T
  begun input language = record (beginning language) { save = input.save; reference_field = input.reference_field }

  -- one thing is given after the other
  pub begun_for : (input : flat.Input) (language : L) (first second third : Choices L (Option P) T)
      → first ≡ beginning language
      → second ≡ record first { save = input.save } → third ≡ record second { reference_field = input.reference_field }
      → third ≡ begun input language
  begun_for input language first second third e f g =
      g ∙ ap {A = Choices L (Option P) T} (λ c. record c { reference_field = input.reference_field })
      (f ∙ ap {A = Choices L (Option P) T} (λ c. record c { save = input.save }) e)

  -- and then the fields
  pub given_for : (input : held.Input) (language : L) (third last : Choices L (Option P) T) (names : List (Bor Bytes))
      → third ≡ begun (input_told input) language → names ≡ input.fields.items → last
      ≡ with_fields (map (λ name. name.now) names) third → last
      ≡ with_fields (input_told input).fields (begun (input_told input) language)
  given_for input language third last names e f g =
      g ∙ ap {A = Choices L (Option P) T} (with_fields (map (λ name. name.now) names)) e
      ∙ ap (λ ns. with_fields (map (λ (name : Bor Bytes). name.now) ns) (begun (input_told input) language)) f

  pub given_fields : (Q : List Bytes → Type 0) (input : held.Input) (language : L) (third : Choices L (Option P) T)
      (names : List (Bor Bytes)) → third ≡ begun (input_told input) language → names ≡ input.fields.items
      → Q (third.fields ++ map (λ name. name.now) names) → Q (input_told input).fields
  given_fields Q input language third names e f q =
      subst (λ ns. Q (map (λ (name : Bor Bytes). name.now) ns)) f
      (subst (λ (c : Choices L (Option P) T). Q (c.fields ++ map (λ name. name.now) names)) e q)

  uses_language : (input : flat.Input) (language : L) → UsesLanguage (with_fields input.fields (begun input language))
  uses_language input language = record { no_pipeline = refl; no_tokenizer = nothing_there input.fields }

module _ {P T : Type 0} where
  -- what `build` makes of what was given
  pub built_for : (input : flat.Input) (language : InputLanguage) (given : Choices InputLanguage (Option P) T)
      (built : Choices InputLanguage P T) (plan : Plan) (reads : ℕ → Bytes → List Text → Type 0)
      (Leaves : InputLanguage → Type 0) (made : Makes) (stands : Commands → Type 0)
      → ((lang : InputLanguage) (reference : Bytes) (values : List FieldValue) (document : Document)
      → ReadsOnly reads (LanguageReads words (leaves_in lang)) → Leaves lang → made reference values document
      → documents.IsDocument built.fields built.reference_field (MayHaveAt (LanguageReads words (leaves_in lang))
      (LanguageLeaves (leaves_in lang)) values) reference (value_texts values) document)
      → given ≡ with_fields input.fields (begun input language)
      → stands none → IsBuiltBy given built
      → IfNone given.pipeline (plan ≡ language_plan name_in stages_in given)
      → IfNone given.pipeline (Leaves given.language)
      → (UsesLanguage given → ReadsOnly reads (LanguageReads words (leaves_in given.language)))
      → IsBuiltFor field_told input language plan made stands
  built_for input language given built plan reads Leaves made stands makes same empty has its_plan leaves uses =
      let fields : built.fields ≡ input.fields = has.fields
      ∙ ap (λ (c : Choices InputLanguage (Option P) T). c.fields) same in
      let reference_field : built.reference_field ≡ input.reference_field = has.reference_field
      ∙ ap (λ (c : Choices InputLanguage (Option P) T). c.reference_field) same in
      let only : ReadsOnly reads (LanguageReads words (leaves_in language)) =
      subst (λ (c : Choices InputLanguage (Option P) T). UsesLanguage c
      → ReadsOnly reads (LanguageReads words (leaves_in c.language))) same uses (uses_language input language) in
      let left : Leaves language =
      subst (λ (c : Choices InputLanguage (Option P) T). IfNone c.pipeline (Leaves c.language)) same leaves in
      record {
        its_plan = subst (λ (c : Choices InputLanguage (Option P) T). IfNone c.pipeline
            (plan ≡ language_plan name_in stages_in c)) same its_plan;
        adds = λ asked values document are is. added_carried language input asked values document are
            (subst (λ names. documents.IsDocument names input.reference_field
            (MayHaveAt (LanguageReads words (leaves_in language)) (LanguageLeaves (leaves_in language)) values)
            asked.reference (value_texts values) document) fields
            (subst (λ name. documents.IsDocument built.fields name
            (MayHaveAt (LanguageReads words (leaves_in language)) (LanguageLeaves (leaves_in language)) values)
            asked.reference (value_texts values) document) reference_field
            (makes language asked.reference values document only left is)));
        empty = empty;
      }

  pub built_fields : (input : flat.Input) (language : InputLanguage) (given : Choices InputLanguage (Option P) T)
      (built : Choices InputLanguage P T) → given ≡ with_fields input.fields (begun input language)
      → IsBuiltBy given built → built.fields ≡ input.fields
  built_fields input language given built same has = has.fields
      ∙ ap (λ (c : Choices InputLanguage (Option P) T). c.fields) same
