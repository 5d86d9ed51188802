-- Bytes that do not begin with a part do not begin with anything that begins with this part.
use Rattle.std.proofs.Common.{◌≡◌, ℕ, ◌<◌, Bool, List, [], ◌++◌, sym, ap, ◌∙◌, append_assoc, arith}
use Rattle.std.proofs.lemmas.List.{append-nil}
use Rattle.elasticlunr_error.specs.Text.{Bytes}
use Rattle.elasticlunr_flat.specs.Flat.{Language, built_in, own, stemmed, from_text, into_pipeline, as_given}
use Rattle.elasticlunr_flat.specs.Flat.{flat_number, flat_text, flat_list, flat_texts, flat_truth, flat_language}
use Rattle.elasticlunr_flat.specs.Flat.{flat_tokens, flat_value, flat_document, flat_input, IsNumber, IsText, IsList}
use Rattle.elasticlunr_flat.specs.Flat.{AreTexts, IsLanguage, AreTokens, IsValue, IsDocument, IsInput}
use Rattle.elasticlunr_flat.specs.Flat.{Needed, one, each_in_one_field, each, needed_number, flat_pair, flat_needed}
use Rattle.elasticlunr_flat.specs.Flat.{flat_cutting, flat_search, IsCutting, IsPair, IsByte, IsSearch}
use Rattle.elasticlunr_flat.specs.Reading.{IsRead, BeginsWithNone, IsReadOneWay, IsAnyTruth, IsAnyNeeded, IsOfNone}
use Rattle.elasticlunr_flat.specs.OneWay.{number_one_way, text_one_way, texts_one_way, truth_one_way}
use Rattle.elasticlunr_flat.specs.OneWay.{language_one_way, own_in_order, input_in_order}
use Rattle.elasticlunr_flat.specs.OneWay.{from_reference, from_save, from_fields, from_documents}
use Rattle.elasticlunr_flat.specs.OneWay.{is_needed_number, Parts, PartsFit, flat_parts, parts_of, search_of, parts_fit}
use Rattle.elasticlunr_flat.proofs.Fields.{next}

-- ---- several fields

-- the first field is missing
first_missing : {A B : Type 0} (Fits : A → Type 0) (FieldFits : B → Type 0) (flat : B → Bytes) (field : A → B)
    (others : A → Bytes) → ((x : A) → Fits x → FieldFits (field x)) → (bytes : Bytes)
    → BeginsWithNone FieldFits flat bytes → BeginsWithNone Fits (λ x. flat (field x) ++ others x) bytes
first_missing Fits FieldFits flat field others fits_of bytes none = λ x more fits is.
    none (field x) (others x ++ more) (fits_of x fits) (is ∙ append_assoc (flat (field x)) (others x) more)

-- the first field is there, and the others are missing
others_missing : {A B : Type 0} (Fits : A → Type 0) (FieldFits : B → Type 0) (flat : B → Bytes) (field : A → B)
    (others : A → Bytes) → IsReadOneWay FieldFits flat → ((x : A) → Fits x → FieldFits (field x)) → (bytes rest : Bytes)
    (y : B) → IsRead FieldFits flat bytes y rest → BeginsWithNone Fits others rest
    → BeginsWithNone Fits (λ x. flat (field x) ++ others x) bytes
others_missing Fits FieldFits flat field others one_way fits_of bytes rest y read none = λ x more fits is.
    none x more fits (next FieldFits flat one_way bytes y rest read (field x) (others x ++ more) (fits_of x fits)
    (is ∙ append_assoc (flat (field x)) (others x) more)).1

pub no_value : (bytes rest text : Bytes) → IsRead IsText flat_text bytes text rest
    → BeginsWithNone AreTokens flat_tokens rest → BeginsWithNone IsValue flat_value bytes
no_value bytes rest text read none =
    others_missing IsValue IsText flat_text (λ x. x.text) (λ x. flat_tokens x.tokens) text_one_way (λ x fits. fits.text)
    bytes rest text read (λ x more fits is. none x.tokens more fits.tokens is)

pub no_document : (bytes rest reference : Bytes) → IsRead IsText flat_text bytes reference rest
    → BeginsWithNone (IsList IsValue) (flat_list flat_value) rest → BeginsWithNone IsDocument flat_document bytes
no_document bytes rest reference read none =
    others_missing IsDocument IsText flat_text (λ x. x.reference) (λ x. flat_list flat_value x.values) text_one_way
    (λ x fits. fits.reference) bytes rest reference read (λ x more fits is. none x.values more fits.values is)

-- ---- one of several kinds

-- no tokens of a kind that the number says
pub no_tokens : (bytes rest : Bytes) (n : ℕ) → IsRead IsNumber flat_number bytes n rest → (n ≡ 0 → ⊥)
    → (n ≡ 1 → BeginsWithNone AreTexts flat_texts rest) → (n ≡ 2 → BeginsWithNone AreTexts flat_texts rest)
    → BeginsWithNone AreTokens flat_tokens bytes
no_tokens bytes rest n read not_0 at_1 at_2 from_text more fits is =
    not_0 (next IsNumber flat_number number_one_way bytes n rest read 0 more (omega arith) is).0
no_tokens bytes rest n read not_0 at_1 at_2 (into_pipeline tokens) more fits is =
    let after = next IsNumber flat_number number_one_way bytes n rest read 1 (flat_texts tokens ++ more) (omega arith)
    (is ∙ append_assoc (flat_number 1) (flat_texts tokens) more) in
    at_1 after.0 tokens more fits after.1
no_tokens bytes rest n read not_0 at_1 at_2 (as_given tokens) more fits is =
    let after = next IsNumber flat_number number_one_way bytes n rest read 2 (flat_texts tokens ++ more) (omega arith)
    (is ∙ append_assoc (flat_number 2) (flat_texts tokens) more) in
    at_2 after.0 tokens more fits after.1

-- a name and stages are missing
abbrev pub HasNoNameAndStages : Bytes → Type 0
HasNoNameAndStages bytes = (name : Bytes) (stages : List Bytes) (more : Bytes) → IsText name → AreTexts stages
    → bytes ≡ flat_text name ++ (flat_texts stages ++ more) → ⊥

pub no_name : (bytes : Bytes) → BeginsWithNone IsText flat_text bytes → HasNoNameAndStages bytes
no_name bytes none = λ name stages more fits _ is. none name (flat_texts stages ++ more) fits is

pub no_stages : (bytes rest name : Bytes) → IsRead IsText flat_text bytes name rest
    → BeginsWithNone AreTexts flat_texts rest → HasNoNameAndStages bytes
no_stages bytes rest name read none = λ other stages more fits fit is.
    none stages more fit (next IsText flat_text text_one_way bytes name rest read other (flat_texts stages ++ more) fits
    is).1

-- no language of a kind that the number says
pub no_language : (bytes rest : Bytes) (n : ℕ) → IsRead IsNumber flat_number bytes n rest
    → (n ≡ 0 → BeginsWithNone IsText flat_text rest) → (n ≡ 1 → HasNoNameAndStages rest)
    → (n ≡ 2 → BeginsWithNone IsText flat_text rest) → BeginsWithNone IsLanguage flat_language bytes
no_language bytes rest n read at_0 at_1 at_2 (built_in name) more fits is =
    let after = next IsNumber flat_number number_one_way bytes n rest read 0 (flat_text name ++ more) (omega arith)
    (is ∙ append_assoc (flat_number 0) (flat_text name) more) in
    at_0 after.0 name more fits after.1
no_language bytes rest n read at_0 at_1 at_2 (own name stages) more fits is =
    let after = next IsNumber flat_number number_one_way bytes n rest read 1
    (flat_text name ++ (flat_texts stages ++ more)) (omega arith) (is ∙ own_in_order name stages more) in
    at_1 after.0 name stages more fits.0 fits.1 after.1
no_language bytes rest n read at_0 at_1 at_2 (stemmed name) more fits is =
    let after = next IsNumber flat_number number_one_way bytes n rest read 2 (flat_text name ++ more) (omega arith)
    (is ∙ append_assoc (flat_number 2) (flat_text name) more) in
    at_2 after.0 name more fits after.1

-- ---- an input, from each of its fields on

no_input : (bytes : Bytes) → BeginsWithNone IsInput (λ x. flat_language x.language ++ from_reference x) bytes
    → BeginsWithNone IsInput flat_input bytes
no_input bytes none = λ x more fits is. none x more fits (is ∙ ap (λ p. p ++ more) (input_in_order x))

pub after_language : (bytes rest : Bytes) (language : Language) → IsRead IsLanguage flat_language bytes language rest
    → BeginsWithNone IsInput from_reference rest → BeginsWithNone IsInput flat_input bytes
after_language bytes rest language read none =
    no_input bytes (others_missing IsInput IsLanguage flat_language (λ x. x.language) from_reference language_one_way
    (λ x fits. fits.language) bytes rest language read none)

pub no_reference : (bytes : Bytes) → BeginsWithNone IsText flat_text bytes → BeginsWithNone IsInput from_reference bytes
no_reference bytes none = first_missing IsInput IsText flat_text (λ x. x.reference_field) from_save
    (λ x fits. fits.reference_field) bytes none

pub after_reference : (bytes rest reference : Bytes) → IsRead IsText flat_text bytes reference rest
    → BeginsWithNone IsInput from_save rest → BeginsWithNone IsInput from_reference bytes
after_reference bytes rest reference read none =
    others_missing IsInput IsText flat_text (λ x. x.reference_field) from_save text_one_way
    (λ x fits. fits.reference_field) bytes rest reference read none

pub no_save : (bytes : Bytes) → BeginsWithNone IsAnyTruth flat_truth bytes → BeginsWithNone IsInput from_save bytes
no_save bytes none = first_missing IsInput IsAnyTruth flat_truth (λ x. x.save) from_fields (λ x fits. tt) bytes none

pub after_save : (bytes rest : Bytes) (save : Bool) → IsRead IsAnyTruth flat_truth bytes save rest
    → BeginsWithNone IsInput from_fields rest → BeginsWithNone IsInput from_save bytes
after_save bytes rest save read none =
    others_missing IsInput IsAnyTruth flat_truth (λ x. x.save) from_fields truth_one_way (λ x fits. tt) bytes rest save
    read none

pub no_fields : (bytes : Bytes) → BeginsWithNone AreTexts flat_texts bytes → BeginsWithNone IsInput from_fields bytes
no_fields bytes none = first_missing IsInput AreTexts flat_texts (λ x. x.fields) from_documents (λ x fits. fits.fields)
    bytes none

pub no_documents : (bytes rest : Bytes) (fields : List Bytes) → IsRead AreTexts flat_texts bytes fields rest
    → BeginsWithNone (IsList IsDocument) (flat_list flat_document) rest → BeginsWithNone IsInput from_fields bytes
no_documents bytes rest fields read none =
    others_missing IsInput AreTexts flat_texts (λ x. x.fields) from_documents texts_one_way (λ x fits. fits.fields)
    bytes rest fields read (λ x more fits is. none x.documents more fits.documents is)

-- ---- a pair

pub no_first : {A B : Type 0} (FirstFits : A → Type 0) (flat_first : A → Bytes) (SecondFits : B → Type 0)
    (flat_second : B → Bytes) (bytes : Bytes) → BeginsWithNone FirstFits flat_first bytes
    → BeginsWithNone (IsPair FirstFits SecondFits) (flat_pair flat_first flat_second) bytes
no_first FirstFits flat_first SecondFits flat_second bytes none =
    first_missing (IsPair FirstFits SecondFits) FirstFits flat_first (λ x. x.0) (λ x. flat_second x.1) (λ x fits. fits.0)
    bytes none

pub no_second : {A B : Type 0} (FirstFits : A → Type 0) (flat_first : A → Bytes) → IsReadOneWay FirstFits flat_first
    → (SecondFits : B → Type 0) (flat_second : B → Bytes) (bytes rest : Bytes) (x : A)
    → IsRead FirstFits flat_first bytes x rest → BeginsWithNone SecondFits flat_second rest
    → BeginsWithNone (IsPair FirstFits SecondFits) (flat_pair flat_first flat_second) bytes
no_second FirstFits flat_first one_way SecondFits flat_second bytes rest x read none =
    others_missing (IsPair FirstFits SecondFits) FirstFits flat_first (λ y. y.0) (λ y. flat_second y.1) one_way
    (λ y fits. fits.0) bytes rest x read (λ y more fits is. none y.1 more fits.1 is)

-- ---- documents whose index is cut into pieces

-- where there are no parts, there are none
pub no_cutting : (bytes : Bytes)
    → IsOfNone (IsPair IsText (IsPair IsNumber IsInput)) (flat_pair flat_text (flat_pair flat_number flat_input)) bytes
    → IsOfNone IsCutting flat_cutting bytes
no_cutting bytes none = λ cutting fits is.
    none (cutting.title, (cutting.size, cutting.input)) (fits.title, (fits.size, fits.input)) is

-- ---- a search

-- a number past 255 is no boost
pub no_byte : (bytes rest : Bytes) (n : ℕ) → IsRead IsNumber flat_number bytes n rest → 255 < n
    → BeginsWithNone IsByte flat_number bytes
no_byte bytes rest n read past byte more fits is =
    let after = next IsNumber flat_number number_one_way bytes n rest read byte more (omega (arith, fits)) is in
    omega (arith, past, fits, after.0)

-- no need of this number
pub no_needed : (bytes rest : Bytes) (n : ℕ) → IsRead IsNumber flat_number bytes n rest → (n ≡ 0 → ⊥) → (n ≡ 1 → ⊥)
    → (n ≡ 2 → ⊥) → BeginsWithNone IsAnyNeeded flat_needed bytes
no_needed bytes rest n read not_0 not_1 not_2 needed more fits is =
    by needed (next IsNumber flat_number number_one_way bytes n rest read (needed_number needed) more
    (omega (arith, is_needed_number needed)) is).0 where
      by : (needed : Needed) → n ≡ needed_number needed → ⊥
      by one same = not_0 same
      by each_in_one_field same = not_1 same
      by each same = not_2 same

-- where there are no parts, there is no search
pub no_search : (bytes : Bytes) → BeginsWithNone PartsFit flat_parts bytes → BeginsWithNone IsSearch flat_search bytes
no_search bytes none = λ search more fits is. none (parts_of search) more (parts_fit search fits) is

-- the parts of a search make it
pub is_search : (bytes rest : Bytes) (parts : Parts) → IsRead PartsFit flat_parts bytes parts rest
    → IsRead IsSearch flat_search bytes (search_of parts) rest
is_search bytes rest parts read = record {
  fits = record {
    query = read.fits.0;
    fields = read.fits.1.1.1.0;
    boosts = read.fits.1.1.1.1.0;
    limit = read.fits.1.1.1.1.1;
  };
  parts = read.parts;
}

-- ---- nothing follows

module _ {A : Type 0} (Fits : A → Type 0) (flat : A → Bytes) where
  -- bytes that begin with no item are those of none
  pub none_whole : (bytes : Bytes) → BeginsWithNone Fits flat bytes → IsOfNone Fits flat bytes
  none_whole bytes none = λ item fits is. none item [] fits (is ∙ sym (append-nil (flat item)))

  -- an item after which nothing is left is all of the bytes
  pub whole : (bytes rest : Bytes) (item : A) → IsRead Fits flat bytes item rest → rest ≡ [] → bytes ≡ flat item
  whole bytes rest item read ended = read.parts ∙ ap (λ r. flat item ++ r) ended ∙ append-nil (flat item)

  -- bytes with something after an item are those of no item
  pub not_whole : IsReadOneWay Fits flat → (bytes rest : Bytes) (item : A) → IsRead Fits flat bytes item rest
      → (rest ≡ [] → ⊥) → IsOfNone Fits flat bytes
  not_whole one_way bytes rest item read goes_on = λ other fits is.
      goes_on (next Fits flat one_way bytes item rest read other [] fits (is ∙ sym (append-nil (flat other)))).1
