-- The document of values that may come with tokens.
use Rattle.std.proofs.Common.{◌≡◌, ◌↔◌, ℕ, zero, suc, List, [], ◌∷◌, length, map, Option, None, Some, refl, sym, ap, subst}
use Rattle.std.proofs.Common.{◌∙◌, All, IsTrue, IfSome, filter_map}
use Rattle.std.proofs.lemmas.List.{length-map}
use Rattle.std.proofs.lemmas.List.Elements.{All-get_or}
use Rattle.std.proofs.lemmas.Option.{get_or_from_slice_get, slice_get_within}
use Rattle.std.specs.Borrow.{Bor}
use Rattle.std.specs.List.{slice_get, AllZip}
use Rattle.std.specs.Prelude.{IsSomeAnd}
use Rattle.std.specs.Str.{all_scalars}
use Rattle.elasticlunr_text.specs.Text.{Text, Bytes}
use Rattle.elasticlunr_state.specs.Texts.{texts_left}
use Rattle.elasticlunr_commands.specs.History.{Document, Given}
use Rattle.elasticlunr.specs.Documents.{IsDocument, IsGiven}
use Rattle.elasticlunr.specs.GivenTokens.{GoThrough, MayHave, MayHaveAt, value_texts}
use Rattle.elasticlunr.specs.Reading.{LanguageLeaves, ReadsOnly}
use Rattle.elasticlunr.specs.declared.values.FieldValue.{FieldValue}
use Rattle.elasticlunr.specs.declared.values.TokenSource.{TokenSource}
use Rattle.elasticlunr.specs.declared.values.TokenSource.TheVariants.{AsGiven, FromText, IntoPipeline}
use Rattle.elasticlunr.proofs.Calling.{document_more}
use Rattle.elasticlunr.proofs.Documents.{Left, document_of, given_of, is_document}
use Rattle.elasticlunr.proofs.Reading.{leaves_as}

-- the value whose text stands at a place
value_at : (texts : List (Bor Bytes)) (values : List FieldValue) → map (λ t. t.now) texts ≡ value_texts values
    → (i : ℕ) (text : Bor Bytes) → slice_get texts i ≡ Some text
    → (value : FieldValue) × (slice_get values i ≡ Some value) × (value.text.now ≡ text.now)
value_at [] values e i text there = absurd (cc (there))
value_at (x ∷ xs) [] e i text there = absurd (cc (e))
value_at (x ∷ xs) (v ∷ vs) e zero text there =
    let same : x ≡ text = cc (there) in
    let first : x.now ≡ v.text.now = cc (e) in (v, refl, sym first ∙ ap (λ b. b.now) same)
value_at (x ∷ xs) (v ∷ vs) e (suc i) text there =
    let more : map (λ t. t.now) xs ≡ value_texts vs = cc (e) in value_at xs vs more i text there

some_more : {X : Type 0} (o : Option X) (P Q : X → Type 0) → ((x : X) → P x → Q x) → IsSomeAnd o P → IsSomeAnd o Q
some_more None P Q f h = h
some_more (Some x) P Q f h = f x h

module _ (fields : List Bytes) (reference_field : Bytes) (reads : ℕ → Bytes → List Text → Type 0)
    (runs : List Text → List Text → Type 0) where
  -- what is given with a value is given at its place
  given_at : (values : List FieldValue) (i : ℕ) (value : FieldValue) (text : Bor Bytes) (left : Left)
      → slice_get values i ≡ Some value → value.text.now ≡ text.now
      → IsGiven fields reference_field (MayHave reads runs value.tokens) i
      (record { value = value.text.now; tokens = texts_left left })
      → IsGiven fields reference_field (MayHaveAt reads runs values) i (given_of text left)
  given_at values i value text left there same is = record {
    of_reference = is.of_reference;
    of_value = λ other. some_more (texts_left left) (MayHave reads runs value.tokens i value.text.now)
        (MayHaveAt reads runs values i text.now)
        (λ tokens has. subst (λ o. IsSomeAnd o (λ v. MayHave reads runs v.tokens i text.now tokens)) (sym there)
        (subst (λ b. MayHave reads runs value.tokens i b tokens) same has)) (is.of_value other);
  }

  -- it is the document with the texts of these values and with their tokens
  pub is_document_with : (reference : Bytes) (values : List FieldValue) (texts : List (Bor Bytes)) (lefts : List Left)
      → map (λ t. t.now) texts ≡ value_texts values → length lefts ≡ length texts
      → ((i : ℕ) (value : FieldValue) (left : Left) → slice_get values i ≡ Some value → slice_get lefts i ≡ Some left
      → IsGiven fields reference_field (MayHave reads runs value.tokens) i
      (record { value = value.text.now; tokens = texts_left left }))
      → IsDocument fields reference_field (MayHaveAt reads runs values) reference (value_texts values)
      (document_of reference texts lefts)
  is_document_with reference values texts lefts are as_many each =
      subst (λ vs. IsDocument fields reference_field (MayHaveAt reads runs values) reference vs
      (document_of reference texts lefts)) are
      (is_document fields reference_field (MayHaveAt reads runs values) reference texts lefts as_many
      (λ i text left there also. let at = value_at texts values are i text there in
      given_at values i at.0 text left at.1 at.2 (each i at.0 left at.1 also)))

-- there are as many texts as values
pub as_many_texts : (values : List FieldValue) (texts : List (Bor Bytes)) → map (λ t. t.now) texts ≡ value_texts values
    → length texts ≡ length values
as_many_texts values texts are = sym (length-map texts (λ t. t.now)) ∙ ap length are
    ∙ length-map values (λ value. value.text.now)

-- what leaves more of tokens does so of those that go through
pub through_more : (M R : Text → Option Text → Type 0) → ((token : Text) (left : Option Text)
    → IsTrue (all_scalars token) → M token left → R token left)
    → (given tokens : List Text)
    → GoThrough (λ made left. (lefts : List (Option Text)) × AllZip M made lefts × (left ≡ filter_map (λ l. l) lefts))
    given tokens
    → GoThrough (LanguageLeaves R) given tokens
through_more M R more given tokens through = record {
  are_texts = through.are_texts;
  left = record {
    lefts = through.left.0;
    each = leaves_as M R more given through.left.0 through.are_texts through.left.1;
    are = through.left.2;
  };
}

module _ (reads other : ℕ → Bytes → List Text → Type 0) (runs more : List Text → List Text → Type 0)
    (as_read : ReadsOnly reads other)
    (as_run : (given tokens : List Text) → GoThrough runs given tokens → GoThrough more given tokens) where
  may_have_more : (source : TokenSource) (i : ℕ) (text : Bytes) (tokens : List Text)
      → MayHave reads runs source i text tokens → MayHave other more source i text tokens
  may_have_more FromText i text tokens has = as_read i text tokens has
  may_have_more (IntoPipeline given) i text tokens has = as_run _ tokens has
  may_have_more (AsGiven given) i text tokens has = has

  -- what reads and runs more has more
  pub may_have_at_more : (values : List FieldValue) → ReadsOnly (MayHaveAt reads runs values)
      (MayHaveAt other more values)
  may_have_at_more values i text tokens has = some_more (slice_get values i)
      (λ value. MayHave reads runs value.tokens i text tokens) (λ value. MayHave other more value.tokens i text tokens)
      (λ value one. may_have_more value.tokens i text tokens one) has

-- what holds of all values holds of the one at a place
from_text_at : (values : List FieldValue) → All (λ value. value.tokens ≡ FromText) values → (i : ℕ)
    (value : FieldValue) → slice_get values i ≡ Some value → value.tokens ≡ FromText
from_text_at values all i value there = subst (λ (v : FieldValue). v.tokens ≡ FromText)
    (get_or_from_slice_get values i value value there)
    (All-get_or (λ v. v.tokens ≡ FromText) values i value (slice_get_within values i value there) all)

-- what a place of the document has, with the value that stands there
place_more : (values : List FieldValue) (givens : List Given) → map (λ given. given.value) givens ≡ value_texts values
    → (i : ℕ) (P Q : Given → Type 0) → ((value : FieldValue) → slice_get values i ≡ Some value → (given : Given)
    → P given → Q given)
    → IfSome (slice_get givens i) P → IfSome (slice_get givens i) Q
place_more values [] e i P Q f h = tt
place_more [] (g ∷ gs) e i P Q f h = absurd (cc (e))
place_more (v ∷ vs) (g ∷ gs) e zero P Q f h = f v refl g h
place_more (v ∷ vs) (g ∷ gs) e (suc i) P Q f h =
    let more : map (λ given. given.value) gs ≡ value_texts vs = cc (e) in place_more vs gs more i P Q f h

-- of values without tokens of their own the documents are those of their texts
pub same_without_tokens : (fields : List Bytes) (reference_field : Bytes) (reads : ℕ → Bytes → List Text → Type 0)
    (runs : List Text → List Text → Type 0) (reference : Bytes) (values : List FieldValue) (document : Document)
    → All (λ value. value.tokens ≡ FromText) values
    → IsDocument fields reference_field (MayHaveAt reads runs values) reference (value_texts values) document
    ↔ IsDocument fields reference_field reads reference (value_texts values) document
same_without_tokens fields reference_field reads runs reference values document all = (
  document_more fields reference_field (MayHaveAt reads runs values) reads
      (λ i text tokens has. read_at i text tokens (slice_get values i) refl has)
      reference (value_texts values) document,
  λ is. record {
    its_reference = is.its_reference;
    its_values = is.its_values;
    each = λ i. place_more values document.given is.its_values i (IsGiven fields reference_field reads i)
        (IsGiven fields reference_field (MayHaveAt reads runs values) i)
        (λ value there given one. record {
          of_reference = one.of_reference;
          of_value = λ no. some_more given.tokens (reads i given.value)
              (MayHaveAt reads runs values i given.value)
              (λ tokens read. subst (λ o. IsSomeAnd o (λ v. MayHave reads runs v.tokens i given.value tokens))
              (sym there) (subst (λ t. MayHave reads runs t i given.value tokens)
              (sym (from_text_at values all i value there)) read)) (one.of_value no);
        }) (is.each i);
  },
) where
  read_at : (i : ℕ) (text : Bytes) (tokens : List Text) (there : Option FieldValue) → slice_get values i ≡ there
      → IsSomeAnd there (λ v. MayHave reads runs v.tokens i text tokens) → reads i text tokens
  read_at i text tokens None is has = absurd has
  read_at i text tokens (Some v) is has = subst (λ t. MayHave reads runs t i text tokens)
      (from_text_at values all i v is) has
