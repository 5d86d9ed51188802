-- An index to which the documents of an input are added.
-- `made` relates a reference and values to the document that the index makes of them; `old` and `new` are what it stood
-- for before, and what it represents now.
use Rattle.std.proofs.Common.{◌≡◌, ◌<◌, ◌≤◌, ◌+◌, ℕ, List, [], ◌∷◌, ◌++◌, length, map, take, get_or, Option, inl, inr, refl}
use Rattle.std.proofs.Common.{sym, ap, subst, ◌∙◌, arith}
use Rattle.std.proofs.lemmas.Bool.{cases_lt}
use Rattle.std.proofs.lemmas.List.{map-append, length-map, take_all}
use Rattle.std.specs.List.{AllZip}
use Rattle.elasticlunr_text.specs.Stages.{IsRunBy}
use Rattle.elasticlunr_text.specs.Text.{Text, Bytes}
use Rattle.elasticlunr.specs.Calls.{followed_by}
use Rattle.elasticlunr.specs.Choices.{Reads}
use Rattle.elasticlunr.specs.Documents as documents
use Rattle.elasticlunr.specs.GivenTokens.{MayHaveAt, value_texts}
use Rattle.elasticlunr.specs.History.{Commands, Document, add, none, ◌▸◌}
use Rattle.elasticlunr.specs.Index.{choices_of, fields_of, IsDocumentWithTokens}
use Rattle.elasticlunr.specs.Standing.{Plan}
use Rattle.elasticlunr.specs.Tokenizers.{MayAnswer}
use Rattle.elasticlunr.specs.declared.index.Index.{Index}
use Rattle.elasticlunr.specs.declared.values.FieldValue.{FieldValue}
use Rattle.elasticlunr_flat.specs.Flat as flat
use Rattle.elasticlunr_flat.specs.Told.{document_told}
use Rattle.elasticlunr_flat.specs.declared.form.Document as held
use Rattle.elasticlunr_job.proofs.Filling.{AllZip_more, Follows-append}
use Rattle.elasticlunr_job.proofs.Printing.{zip_more}
use Rattle.elasticlunr_job.proofs.Taken.{Follows, Standing}
use Rattle.elasticlunr_c_calls.specs.Carried.{field_told}
use Rattle.elasticlunr_c_calls.specs.Indexes.{HasTooMany, IsAdded, IsBuiltFor, IsMadeIn, OfIndex}
use Rattle.elasticlunr_c_calls.specs.declared.language.InputLanguage.{InputLanguage}

abbrev pub Makes : Type 1
Makes = Bytes → List FieldValue → Document → Type 0

-- the document is made of these values
pub record IsMadeOf (made : Makes) (given : flat.Document) (document : Document) : Type 0 where
  pub values : List FieldValue
  pub are : map field_told values ≡ given.values
  pub is : made given.reference values document

-- the documents were added, in order
pub record HasTaken (made : Makes) (old new : Standing) (given : List flat.Document) : Type 0 where
  pub documents : List Document
  pub each : AllZip (IsMadeOf made) given documents
  pub follows : Follows old new (map add documents)

-- one document more is taken
pub next_taken : (made : Makes) (old mid new : Standing) (docs : List held.Document) (i : ℕ) (doc : held.Document)
    (values : List FieldValue) → i < length docs → doc ≡ get_or docs i doc
    → map field_told values ≡ (document_told doc).values
    → HasTaken made old mid (map document_told (take i docs)) → (document : Document)
    → made doc.reference.now values document
    → ((commands : Commands) → mid commands → new (commands ▸ add document))
    → HasTaken made old new (map document_told (take (i + 1) docs))
next_taken made old mid new docs i doc values lt is same so_far document makes then =
    let before = so_far.documents in
    record {
      documents = before ++ document ∷ [];
      each = AllZip_more document_told (IsMadeOf made) docs before i doc document lt is so_far.each
          (record { values = values; are = same; is = makes });
      follows = subst (Follows old new) (sym (map-append add before (document ∷ [])))
          (Follows-append old mid new (map add before) (add document ∷ []) so_far.follows (record { stands = then }));
    }

-- all of them are taken
pub all_taken : (made : Makes) (old new : Standing) (docs whole : List held.Document) (i : ℕ) → docs ≡ whole
    → length docs ≤ i → HasTaken made old new (map document_told (take i docs))
    → HasTaken made old new (map document_told whole)
all_taken made old new docs whole i same past took = subst (λ ds. HasTaken made old new (map document_told ds))
    (take_all i docs past ∙ same) took

-- what is made of an index that took all documents
pub made_in : (input : flat.Input) (language : InputLanguage) (made : Makes) (old new : Standing) (before after : Plan)
    (Is : OfIndex) → after ≡ before → IsBuiltFor field_told input language before made old
    → HasTaken made old new input.documents → ((commands : Commands) → new commands → Is after commands)
    → IsMadeIn input language Is
made_in input language made old new before after Is same built took holds =
    let commands = followed_by none (map add took.documents) in
    record {
      commands = commands;
      are_commands = record {
        documents = took.documents;
        each = zip_more (IsMadeOf made) (IsAdded input language) input.documents took.documents
            (λ given document one. built.adds given one.values document one.are one.is) took.each;
        whole = refl;
      };
      is = subst (λ plan. Is plan commands) (same ∙ built.its_plan)
          (holds commands (took.follows.stands none built.empty));
    }

module _ {L P X Y : Type 0} {O : X → Type 0} {F : Y → Type 0} {p : _} {g : _} where
  -- indexes of the same settings make the same documents
  pub document_alike : (tokens_of : L → Text → List Text) (leaves : (v : X) × O v → Text → Option Text)
      (old new : Index L P X Y O F p g) → choices_of new ≡ choices_of old
      → (reference : Bytes) (values : List FieldValue) (document : Document)
      → IsDocumentWithTokens tokens_of leaves new reference values document
      → IsDocumentWithTokens tokens_of leaves old reference values document
  document_alike tokens_of leaves old new same reference values document made =
      subst (λ c. documents.IsDocument c.fields c.reference_field
      (MayHaveAt (Reads tokens_of MayAnswer (IsRunBy leaves) c) (IsRunBy leaves c.pipeline) values) reference
      (value_texts values) document) same made

  -- the values of a document are not too many
  pub fits_told : (old new : Index L P X Y O F p g) (doc : held.Document) (values : List FieldValue) → choices_of new
      ≡ choices_of old → map field_told values ≡ (document_told doc).values
      → ¬ (length (fields_of new) < length values)
      → length (document_told doc).values ≤ length (fields_of old)
  fits_told old new doc values same are fits =
      let long : length (document_told doc).values ≡ length values = sym (ap length are) ∙ length-map values field_told
      in
      let fields_long : length (fields_of new) ≡ length (fields_of old) = ap (λ c. length c.fields) same in
      elim (cases_lt (length (fields_of new)) (length values)) [
        | inl over ↦ absurd (fits over)
        | inr within ↦
            omega arith
      ]

  -- they are too many
  pub too_many_told : (old new : Index L P X Y O F p g) (doc : held.Document) (values : List FieldValue)
      → choices_of new ≡ choices_of old → map field_told values ≡ (document_told doc).values
      → length (fields_of new) < length values → HasTooMany (fields_of old) (document_told doc)
  too_many_told old new doc values same are many =
      let long : length (document_told doc).values ≡ length values = sym (ap length are) ∙ length-map values field_told
      in
      let fields_long : length (fields_of new) ≡ length (fields_of old) = ap (λ c. length c.fields) same in
      omega arith
