-- The settings of an index that was built, and what it then reads.
use Rattle.std.proofs.Common.{◌≡◌, ◌↔◌, ℕ, zero, suc, List, [], ◌∷◌, Bool, true, Option, None, Some, IsTrue, filter_map}
use Rattle.std.proofs.Common.{codes, refl, subst}
use Rattle.std.specs.List.{AllByRecursion, AllZip, slice_get}
use Rattle.std.specs.Str.{all_scalars, chars}
use Rattle.elasticlunr.specs.Choices.{Choices, beginning, with_field, IsBuiltBy, IsMadeAt, Reads}
use Rattle.elasticlunr.specs.Documents.{IsDocument}
use Rattle.elasticlunr.specs.History.{Document, none, ◌▸◌, add}
use Rattle.elasticlunr.specs.Printed.{IsPrintOf}
use Rattle.elasticlunr.specs.Reading.{LanguageReads, ReadsOnly}
use Rattle.elasticlunr.specs.Standing.{Plan}
use Rattle.elasticlunr.specs.Text.{Text, Bytes}
use Rattle.elasticlunr.proofs.Calling.{document_more}
use Rattle.elasticlunr.proofs.Reading.{leaves_as}

-- the same with this pipeline
abbrev pub piped : {L P T : Type 0} → P → Choices L (Option P) T → Choices L (Option P) T
piped pipeline given = record given { pipeline = Some pipeline }

-- it has what the builder was given, and this pipeline
pub built_with : {L P T : Type 0} (given : Choices L (Option P) T) (built : Choices L P T) → IsBuiltBy given built
    → (pipeline : P) → built.pipeline ≡ pipeline → built ≡ record {
      language = given.language;
      pipeline = pipeline;
      fields = given.fields;
      tokenizers = given.tokenizers;
      reference_field = given.reference_field;
      save = given.save;
    }
built_with given built is pipeline own = λ i. record {
  language = is.language i;
  pipeline = own i;
  fields = is.fields i;
  tokenizers = is.tokenizers i;
  reference_field = is.reference_field i;
  save = is.save i;
}

-- the document of an index of one field without a tokenizer: what its pipeline leaves of the language's tokens
pub document_of_run : {L P T : Type 0} (tokens_of : L → Text → List Text) (answers : T → Bytes → List Text → Type 0)
    (runs : P → List Text → List Text → Type 0) (index : Choices L P T) (r : Bytes) (values : List Bytes) (d : Document)
    → IsDocument index.fields index.reference_field (Reads tokens_of answers runs index) r values d → (language : L)
    (pipeline : P) (field reference_field : Bytes) (save : Bool) → index ≡ record {
      language = language;
      pipeline = pipeline;
      fields = field ∷ [];
      tokenizers = None ∷ [];
      reference_field = reference_field;
      save = save;
    } → IsDocument (field ∷ []) reference_field
    (λ _ value tokens. runs pipeline (tokens_of language (chars value)) tokens) r values d
document_of_run {L} {P} {T} tokens_of answers runs index r values d is language pipeline field reference_field save built =
    document_more _ _ _ _ read r values d
    (subst (λ ch. IsDocument ch.fields ch.reference_field (Reads tokens_of answers runs ch) r values d) built is) where
      by_place : (i : ℕ) (value : Bytes) (made : List Text) → IsMadeAt tokens_of answers language
          (slice_get {X = Option T} (None ∷ []) i) value made → made ≡ tokens_of language (chars value)
      by_place zero value made is = is
      by_place (suc i) value made is = absurd is

      read : ReadsOnly (Reads tokens_of answers runs (record {
        language = language;
        pipeline = pipeline;
        fields = field ∷ [];
        tokenizers = None ∷ [];
        reference_field = reference_field;
        save = save;
      })) (λ _ value tokens. runs pipeline (tokens_of language (chars value)) tokens)
      read i value tokens was = subst (λ made. runs pipeline made tokens) (by_place i value was.made was.tokenized)
          was.left

-- the document of an index of two fields, of which the first has a tokenizer: each is read so
pub document_of_two : {L P T : Type 0} (tokens_of : L → Text → List Text) (answers : T → Bytes → List Text → Type 0)
    (runs : P → List Text → List Text → Type 0) (index : Choices L P T) (r : Bytes) (values : List Bytes) (d : Document)
    → IsDocument index.fields index.reference_field (Reads tokens_of answers runs index) r values d → (language : L)
    (pipeline : P) (own : T) (field other reference_field : Bytes) (save : Bool) → index ≡ record {
      language = language;
      pipeline = pipeline;
      fields = field ∷ other ∷ [];
      tokenizers = Some own ∷ None ∷ [];
      reference_field = reference_field;
      save = save;
    } → (reads : ℕ → Bytes → List Text → Type 0)
    → ((value : Bytes) (made tokens : List Text) → AllByRecursion (λ token. IsTrue (all_scalars token)) made
    → answers own value made → runs pipeline made tokens → reads zero value tokens)
    → ((value : Bytes) (made tokens : List Text) → AllByRecursion (λ token. IsTrue (all_scalars token)) made
    → made ≡ tokens_of language (chars value) → runs pipeline made tokens → reads 1 value tokens)
    → IsDocument (field ∷ other ∷ []) reference_field reads r values d
document_of_two {L} {P} {T} tokens_of answers runs index r values d is language pipeline own field other reference_field save
    built reads first second = document_more _ _ _ _ read r values d
    (subst (λ ch. IsDocument ch.fields ch.reference_field (Reads tokens_of answers runs ch) r values d) built is) where
      read : ReadsOnly (Reads tokens_of answers runs (record {
        language = language;
        pipeline = pipeline;
        fields = field ∷ other ∷ [];
        tokenizers = Some own ∷ None ∷ [];
        reference_field = reference_field;
        save = save;
      })) reads
      read zero value tokens was = first value was.made tokens was.are_texts was.tokenized was.left
      read (suc zero) value tokens was = second value was.made tokens was.are_texts was.tokenized was.left
      read (suc (suc i)) value tokens was = absurd was.tokenized

-- what stages leave of tokens is what a language reads that leaves the same of them
pub left_as : (M R : Text → Option Text → Type 0) → ((token : Text) (left : Option Text) → IsTrue (all_scalars token)
    → M token left ↔ R token left)
    → (made tokens : List Text) → AllByRecursion (λ token. IsTrue (all_scalars token)) made
    → (lefts : List (Option Text)) × AllZip M made lefts × (tokens ≡ filter_map (λ left. left) lefts)
    → (makes : Text → List Text) (i : ℕ) (value : Bytes) → made ≡ makes (chars value) → LanguageReads makes R i value tokens
left_as M R same made tokens are ran makes i value is = record {
  lefts = ran.0;
  each = subst (λ ts. AllZip R ts ran.0) is (leaves_as M R (λ token left t. (same token left t).0) made ran.0 are ran.1);
  are = ran.2;
}

-- the document of an index of two fields, of which the first has a tokenizer: of what `gives` says of the one and of the
-- words of the other it has what the language leaves
pub document_of_titled : {L P T : Type 0} (tokens_of : L → Text → List Text) (answers : T → Bytes → List Text → Type 0)
    (M : P → Text → Option Text → Type 0) (index : Choices L P T) (r : Bytes) (values : List Bytes) (d : Document)
    → IsDocument index.fields index.reference_field (Reads tokens_of answers (λ pipeline made tokens.
    (lefts : List (Option Text)) × AllZip (M pipeline) made lefts × (tokens ≡ filter_map (λ left. left) lefts)) index) r
    values d → (given : Choices L (Option P) T) → IsBuiltBy given index
    → (language : L) (own : T) (field other : Bytes)
    → given ≡ with_field other None (with_field field (Some own) (beginning language))
    → (gives : Bytes → List Text → Type 0) → ((value : Bytes) (made : List Text) → answers own value made → gives value
    made) → (R : Text → Option Text → Type 0)
    → ((token : Text) (left : Option Text) → IsTrue (all_scalars token) → M index.pipeline token left ↔ R token left)
    → (reads : ℕ → Bytes → List Text → Type 0)
    → ((value : Bytes) (tokens : List Text) → (made : List Text) × gives value made × LanguageReads (λ _. made) R zero
    value tokens → reads zero value tokens)
    → ((value : Bytes) (tokens : List Text) → LanguageReads (tokens_of language) R 1 value tokens → reads 1 value tokens)
    → IsDocument (field ∷ other ∷ []) (codes "id") reads r values d
document_of_titled {L} {P} {T} tokens_of answers M index r values d is given by language own field other same gives answered R
    leaves reads first second =
    let built = built_with _ index (subst (λ (ch : Choices L (Option P) T). IsBuiltBy ch index) same by) index.pipeline refl
    in
    document_of_two tokens_of answers _ index r values d is language index.pipeline own field other (codes "id") true built
    reads
    (λ value made tokens are gave ran. first value tokens (
      made,
      answered value made gave,
      left_as (M index.pipeline) R leaves made tokens are ran (λ _. made) zero value refl,
    ))
    (λ value made tokens are made_of ran. second value tokens
    (left_as (M index.pipeline) R leaves made tokens are ran (tokens_of language) 1 value made_of))

-- what is printed of an equal plan is printed of this one; so of one document
pub print_with : (plan same : Plan) (document : Document) (text : Bytes) (Q : Document → Type 0) → plan ≡ same
    → IsPrintOf plan (none ▸ add document) text → Q document → (d : Document) × IsPrintOf same (none ▸ add d) text × Q d
print_with plan same document text Q alike print has = (
  document,
  subst (λ (pl : Plan). IsPrintOf pl (none ▸ add document) text) alike print,
  has,
)
