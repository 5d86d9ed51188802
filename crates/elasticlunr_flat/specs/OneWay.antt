-- Bytes are read in one way: two items with which the same bytes begin are equal, and so is what
-- follows them. Proved here, as each type with a flat form cites it.
use Rattle.std.proofs.Common.{◌≡◌, ℕ, Bool, false, true, List, [], ◌∷◌, ◌++◌, length, take, drop, All}
use Rattle.std.proofs.Common.{refl, sym, ap, ◌∙◌, append_assoc, arith}
use Rattle.std.specs.List.{flat_map}
use Rattle.std.specs.Int.{w32, to_le_bytes, from_le_bytes}
use Rattle.std.proofs.lemmas.List.{take_at, drop_at}
use Rattle.std.proofs.lemmas.List.Elements.{All-head, All-tail}
use Rattle.std.proofs.lemmas.Nat.{from_le_bytes-to_le_bytes_4}
use Rattle.elasticlunr_error.specs.Text.{Bytes}
use Rattle.elasticlunr_flat.specs.Flat.{built_in, own, stemmed, Cutting, Input, Needed, Search}
use Rattle.elasticlunr_flat.specs.Flat.{one, each_in_one_field, each, needed_number}
use Rattle.elasticlunr_flat.specs.Flat.{from_text, into_pipeline, as_given}
use Rattle.elasticlunr_flat.specs.Flat.{flat_number, flat_text, flat_list, flat_texts, flat_truth}
use Rattle.elasticlunr_flat.specs.Flat.{flat_language, flat_tokens, flat_value, flat_document}
use Rattle.elasticlunr_flat.specs.Flat.{flat_input, IsNumber, IsText, IsList, AreTexts, IsLanguage}
use Rattle.elasticlunr_flat.specs.Flat.{AreTokens, IsValue, IsDocument, IsInput}
use Rattle.elasticlunr_flat.specs.Flat.{flat_pair, flat_needed, flat_boost, flat_search, IsPair}
use Rattle.elasticlunr_flat.specs.Flat.{IsByte, IsBoost, IsSearch, flat_cutting, IsCutting}
use Rattle.elasticlunr_flat.specs.Reading.{IsReadOneWay, IsAnyTruth, IsAnyNeeded}

-- ---- beginnings of bytes

-- the first part of a beginning stands before all that follows it
pub regrouped : (p x a q y b : Bytes) → (p ++ x) ++ a ≡ (q ++ y) ++ b
    → p ++ (x ++ a) ≡ q ++ (y ++ b)
regrouped p x a q y b same = sym (append_assoc p x a) ∙ same ∙ append_assoc q y b

-- two beginnings of one length are equal
same_front : (p q a b : Bytes) → length p ≡ length q → p ++ a ≡ q ++ b → (p ≡ q) × (a ≡ b)
same_front p q a b long same = (
  sym (take_at p a (length q) long) ∙ ap (take (length q)) same ∙ take_at q b (length q) refl,
  sym (drop_at p a (length q) long) ∙ ap (drop (length q)) same ∙ drop_at q b (length q) refl,
)

pub number_one_way : IsReadOneWay IsNumber flat_number
unfolding flat_number
number_one_way x y a b fits_x fits_y same =
    let fronts = same_front (to_le_bytes w32 x) (to_le_bytes w32 y) a b refl same in (
      sym (from_le_bytes-to_le_bytes_4 x fits_x) ∙ ap (from_le_bytes w32) fronts.0
          ∙ from_le_bytes-to_le_bytes_4 y fits_y,
      fronts.1,
    )

-- a number and what it is before
after_number : (m n : ℕ) (x a y b : Bytes) → IsNumber m → IsNumber n
    → (flat_number m ++ x) ++ a ≡ (flat_number n ++ y) ++ b → (m ≡ n) × (x ++ a ≡ y ++ b)
after_number m n x a y b fits_m fits_n same =
    number_one_way m n (x ++ a) (y ++ b) fits_m fits_n
    (regrouped (flat_number m) x a (flat_number n) y b same)

pub text_one_way : IsReadOneWay IsText flat_text
text_one_way x y a b fits_x fits_y same =
    let after = after_number (length x) (length y) x a y b fits_x.1 fits_y.1 same in
    same_front x y a b after.0 after.1

-- ---- lists

items_one_way : {A : Type 0} (Fits : A → Type 0) (flat : A → Bytes) → IsReadOneWay Fits flat
    → (xs ys : List A) (a b : Bytes) → length xs ≡ length ys → All Fits xs → All Fits ys
    → flat_map flat xs ++ a ≡ flat_map flat ys ++ b → (xs ≡ ys) × (a ≡ b)
items_one_way Fits flat one_way [] [] a b long fits_x fits_y same = (refl, same)
items_one_way Fits flat one_way [] (y ∷ ys) a b long fits_x fits_y same = absurd (omega arith)
items_one_way Fits flat one_way (x ∷ xs) [] a b long fits_x fits_y same = absurd (omega arith)
items_one_way Fits flat one_way (x ∷ xs) (y ∷ ys) a b long fits_x fits_y same =
    let first = one_way x y (flat_map flat xs ++ a) (flat_map flat ys ++ b)
    (All-head Fits x xs fits_x) (All-head Fits y ys fits_y)
    (regrouped (flat x) (flat_map flat xs) a (flat y) (flat_map flat ys) b same) in
    let others = items_one_way Fits flat one_way xs ys a b (omega arith)
    (All-tail Fits x xs fits_x) (All-tail Fits y ys fits_y) first.1 in
    (cc (first.0, others.0), others.1)

pub list_one_way : {A : Type 0} (Fits : A → Type 0) (flat : A → Bytes) → IsReadOneWay Fits flat
    → IsReadOneWay (IsList Fits) (flat_list flat)
list_one_way Fits flat one_way xs ys a b fits_x fits_y same =
    let after = after_number (length xs) (length ys) (flat_map flat xs) a (flat_map flat ys) b
    fits_x.0 fits_y.0 same in
    items_one_way Fits flat one_way xs ys a b after.0 fits_x.1 fits_y.1 after.1

pub texts_one_way : IsReadOneWay AreTexts flat_texts
texts_one_way = list_one_way IsText flat_text text_one_way

-- ---- items of several kinds, which a number tells apart

pub truth_one_way : IsReadOneWay IsAnyTruth flat_truth
truth_one_way false false a b fits_x fits_y same =
    (refl, (number_one_way 0 0 a b (omega arith) (omega arith) same).1)
truth_one_way true true a b fits_x fits_y same =
    (refl, (number_one_way 1 1 a b (omega arith) (omega arith) same).1)
truth_one_way false true a b fits_x fits_y same =
    let after = number_one_way 0 1 a b (omega arith) (omega arith) same in
    absurd (omega arith)
truth_one_way true false a b fits_x fits_y same =
    let after = number_one_way 1 0 a b (omega arith) (omega arith) same in
    absurd (omega arith)

pub tokens_one_way : IsReadOneWay AreTokens flat_tokens
tokens_one_way from_text from_text a b fits_x fits_y same =
    (refl, (number_one_way 0 0 a b (omega arith) (omega arith) same).1)
tokens_one_way (into_pipeline s) (into_pipeline t) a b fits_x fits_y same =
    let after = after_number 1 1 (flat_texts s) a (flat_texts t) b (omega arith) (omega arith)
    same in
    let tokens = texts_one_way s t a b fits_x fits_y after.1 in
    (ap into_pipeline tokens.0, tokens.1)
tokens_one_way (as_given s) (as_given t) a b fits_x fits_y same =
    let after = after_number 2 2 (flat_texts s) a (flat_texts t) b (omega arith) (omega arith)
    same in
    let tokens = texts_one_way s t a b fits_x fits_y after.1 in
    (ap as_given tokens.0, tokens.1)
tokens_one_way from_text (into_pipeline t) a b fits_x fits_y same =
    let after = number_one_way 0 1 a (flat_texts t ++ b) (omega arith) (omega arith)
    (same ∙ append_assoc (flat_number 1) (flat_texts t) b) in
    absurd (omega arith)
tokens_one_way from_text (as_given t) a b fits_x fits_y same =
    let after = number_one_way 0 2 a (flat_texts t ++ b) (omega arith) (omega arith)
    (same ∙ append_assoc (flat_number 2) (flat_texts t) b) in
    absurd (omega arith)
tokens_one_way (into_pipeline s) from_text a b fits_x fits_y same =
    let after = number_one_way 1 0 (flat_texts s ++ a) b (omega arith) (omega arith)
    (sym (append_assoc (flat_number 1) (flat_texts s) a) ∙ same) in
    absurd (omega arith)
tokens_one_way (as_given s) from_text a b fits_x fits_y same =
    let after = number_one_way 2 0 (flat_texts s ++ a) b (omega arith) (omega arith)
    (sym (append_assoc (flat_number 2) (flat_texts s) a) ∙ same) in
    absurd (omega arith)
tokens_one_way (into_pipeline s) (as_given t) a b fits_x fits_y same =
    let after = after_number 1 2 (flat_texts s) a (flat_texts t) b (omega arith) (omega arith)
    same in
    absurd (omega arith)
tokens_one_way (as_given s) (into_pipeline t) a b fits_x fits_y same =
    let after = after_number 2 1 (flat_texts s) a (flat_texts t) b (omega arith) (omega arith)
    same in
    absurd (omega arith)

-- a custom language and what follows it, part by part
pub own_in_order : (name : Bytes) (stages : List Bytes) (more : Bytes)
    → flat_language (own name stages) ++ more
    ≡ flat_number 1 ++ (flat_text name ++ (flat_texts stages ++ more))
own_in_order name stages more =
    append_assoc (flat_number 1 ++ flat_text name) (flat_texts stages) more
    ∙ append_assoc (flat_number 1) (flat_text name) (flat_texts stages ++ more)

pub language_one_way : IsReadOneWay IsLanguage flat_language
language_one_way (built_in m) (built_in n) a b fits_x fits_y same =
    let after = after_number 0 0 (flat_text m) a (flat_text n) b (omega arith) (omega arith) same in
    let name = text_one_way m n a b fits_x fits_y after.1 in
    (ap built_in name.0, name.1)
language_one_way (stemmed m) (stemmed n) a b fits_x fits_y same =
    let after = after_number 2 2 (flat_text m) a (flat_text n) b (omega arith) (omega arith) same in
    let name = text_one_way m n a b fits_x fits_y after.1 in
    (ap stemmed name.0, name.1)
language_one_way (own m s) (own n t) a b fits_x fits_y same =
    let after = number_one_way 1 1 (flat_text m ++ (flat_texts s ++ a))
    (flat_text n ++ (flat_texts t ++ b)) (omega arith) (omega arith)
    (sym (own_in_order m s a) ∙ same ∙ own_in_order n t b) in
    let name = text_one_way m n (flat_texts s ++ a) (flat_texts t ++ b) fits_x.0 fits_y.0 after.1 in
    let stages = texts_one_way s t a b fits_x.1 fits_y.1 name.1 in
    (cc (name.0, stages.0), stages.1)
language_one_way (built_in m) (own n t) a b fits_x fits_y same =
    let after = number_one_way 0 1 (flat_text m ++ a) (flat_text n ++ (flat_texts t ++ b))
    (omega arith) (omega arith)
    (sym (append_assoc (flat_number 0) (flat_text m) a) ∙ same ∙ own_in_order n t b) in
    absurd (omega arith)
language_one_way (own m s) (built_in n) a b fits_x fits_y same =
    let after = number_one_way 1 0 (flat_text m ++ (flat_texts s ++ a)) (flat_text n ++ b)
    (omega arith) (omega arith)
    (sym (own_in_order m s a) ∙ same ∙ append_assoc (flat_number 0) (flat_text n) b) in
    absurd (omega arith)
language_one_way (stemmed m) (own n t) a b fits_x fits_y same =
    let after = number_one_way 2 1 (flat_text m ++ a) (flat_text n ++ (flat_texts t ++ b))
    (omega arith) (omega arith)
    (sym (append_assoc (flat_number 2) (flat_text m) a) ∙ same ∙ own_in_order n t b) in
    absurd (omega arith)
language_one_way (own m s) (stemmed n) a b fits_x fits_y same =
    let after = number_one_way 1 2 (flat_text m ++ (flat_texts s ++ a)) (flat_text n ++ b)
    (omega arith) (omega arith)
    (sym (own_in_order m s a) ∙ same ∙ append_assoc (flat_number 2) (flat_text n) b) in
    absurd (omega arith)
language_one_way (built_in m) (stemmed n) a b fits_x fits_y same =
    let after = after_number 0 2 (flat_text m) a (flat_text n) b (omega arith) (omega arith) same in
    absurd (omega arith)
language_one_way (stemmed m) (built_in n) a b fits_x fits_y same =
    let after = after_number 2 0 (flat_text m) a (flat_text n) b (omega arith) (omega arith) same in
    absurd (omega arith)

-- ---- items of several fields

pub value_one_way : IsReadOneWay IsValue flat_value
value_one_way x y a b fits_x fits_y same =
    let text = text_one_way x.text y.text (flat_tokens x.tokens ++ a) (flat_tokens y.tokens ++ b)
    fits_x.text fits_y.text
    (regrouped (flat_text x.text) (flat_tokens x.tokens) a (flat_text y.text)
    (flat_tokens y.tokens) b same) in
    let tokens = tokens_one_way x.tokens y.tokens a b fits_x.tokens fits_y.tokens text.1 in
    let one : x ≡ y = ap (λ t. record { text = t; tokens = x.tokens }) text.0
    ∙ ap (λ t. record { text = y.text; tokens = t }) tokens.0 in
    (one, tokens.1)

values_one_way : IsReadOneWay (IsList IsValue) (flat_list flat_value)
values_one_way = list_one_way IsValue flat_value value_one_way

pub document_one_way : IsReadOneWay IsDocument flat_document
document_one_way x y a b fits_x fits_y same =
    let reference = text_one_way x.reference y.reference (flat_list flat_value x.values ++ a)
    (flat_list flat_value y.values ++ b) fits_x.reference fits_y.reference
    (regrouped (flat_text x.reference) (flat_list flat_value x.values) a
    (flat_text y.reference) (flat_list flat_value y.values) b same) in
    let values = values_one_way x.values y.values a b fits_x.values fits_y.values reference.1 in
    let one : x ≡ y = ap (λ t. record { reference = t; values = x.values }) reference.0
    ∙ ap (λ t. record { reference = y.reference; values = t }) values.0 in
    (one, values.1)

documents_one_way : IsReadOneWay (IsList IsDocument) (flat_list flat_document)
documents_one_way = list_one_way IsDocument flat_document document_one_way

-- the bytes of an input from each of its fields on
abbrev pub from_documents : Input → Bytes
from_documents input = flat_list flat_document input.documents

abbrev pub from_fields : Input → Bytes
from_fields input = flat_texts input.fields ++ from_documents input

abbrev pub from_save : Input → Bytes
from_save input = flat_truth input.save ++ from_fields input

abbrev pub from_reference : Input → Bytes
from_reference input = flat_text input.reference_field ++ from_save input

abbrev pub from_language : Input → Bytes
from_language input = flat_language input.language ++ from_reference input

pub input_in_order : (input : Input) → flat_input input ≡ from_language input
input_in_order input =
    let language = flat_language input.language in
    let reference = flat_text input.reference_field in
    let save = flat_truth input.save in
    append_assoc (language ++ reference ++ save) (flat_texts input.fields) (from_documents input)
    ∙ append_assoc (language ++ reference) save (from_fields input)
    ∙ append_assoc language reference (from_save input)

-- inputs with the same fields are equal
same_input : (x y : Input) → x.language ≡ y.language → x.reference_field ≡ y.reference_field
    → x.save ≡ y.save → x.fields ≡ y.fields → x.documents ≡ y.documents → x ≡ y
same_input x y language reference save fields documents =
    let a : Input = record x { language = y.language } in
    let b : Input = record a { reference_field = y.reference_field } in
    let c : Input = record b { save = y.save } in
    let d : Input = record c { fields = y.fields } in
    let to_a : x ≡ a = ap (λ t. record x { language = t }) language in
    let to_b : a ≡ b = ap (λ t. record a { reference_field = t }) reference in
    let to_c : b ≡ c = ap (λ t. record b { save = t }) save in
    let to_d : c ≡ d = ap (λ t. record c { fields = t }) fields in
    let to_y : d ≡ y = ap (λ t. record d { documents = t }) documents in
    to_a ∙ to_b ∙ to_c ∙ to_d ∙ to_y

pub input_one_way : IsReadOneWay IsInput flat_input
input_one_way x y a b fits_x fits_y same =
    let in_order : from_language x ++ a ≡ from_language y ++ b =
    ap (λ p. p ++ a) (sym (input_in_order x)) ∙ same ∙ ap (λ p. p ++ b) (input_in_order y) in
    let language = language_one_way x.language y.language (from_reference x ++ a)
    (from_reference y ++ b) fits_x.language fits_y.language
    (regrouped (flat_language x.language) (from_reference x) a (flat_language y.language)
    (from_reference y) b in_order) in
    let reference = text_one_way x.reference_field y.reference_field (from_save x ++ a)
    (from_save y ++ b) fits_x.reference_field fits_y.reference_field
    (regrouped (flat_text x.reference_field) (from_save x) a (flat_text y.reference_field)
    (from_save y) b language.1) in
    let save = truth_one_way x.save y.save (from_fields x ++ a) (from_fields y ++ b) tt tt
    (regrouped (flat_truth x.save) (from_fields x) a (flat_truth y.save) (from_fields y) b
    reference.1) in
    let fields = texts_one_way x.fields y.fields (from_documents x ++ a) (from_documents y ++ b)
    fits_x.fields fits_y.fields
    (regrouped (flat_texts x.fields) (from_documents x) a (flat_texts y.fields)
    (from_documents y) b save.1) in
    let documents = documents_one_way x.documents y.documents a b fits_x.documents
    fits_y.documents fields.1 in
    (same_input x y language.0 reference.0 save.0 fields.0 documents.0, documents.1)

-- ---- documents whose index is cut into pieces

same_cutting : (x y : Cutting) → x.title ≡ y.title → x.size ≡ y.size → x.input ≡ y.input → x ≡ y
same_cutting x y title size input = λ i. record {
  title = title i;
  size = size i;
  input = input i;
}

pub cutting_one_way : IsReadOneWay IsCutting flat_cutting
cutting_one_way x y a b fits_x fits_y same =
    let after_title = λ (c : Cutting). flat_number c.size ++ flat_input c.input in
    let title = text_one_way x.title y.title (after_title x ++ a) (after_title y ++ b) fits_x.title
    fits_y.title
    (regrouped (flat_text x.title) (after_title x) a (flat_text y.title) (after_title y) b same) in
    let size = number_one_way x.size y.size (flat_input x.input ++ a) (flat_input y.input ++ b)
    fits_x.size fits_y.size
    (regrouped (flat_number x.size) (flat_input x.input) a (flat_number y.size) (flat_input y.input)
    b title.1) in
    let input = input_one_way x.input y.input a b fits_x.input fits_y.input size.1 in
    (same_cutting x y title.0 size.0 input.0, input.1)

-- ---- searches

pub byte_one_way : IsReadOneWay IsByte flat_number
byte_one_way x y a b fits_x fits_y same = number_one_way x y a b (omega (arith, fits_x))
    (omega (arith, fits_y)) same

pub pair_one_way : {A : Type 0} (FirstFits : A → Type 0) (flat_first : A → Bytes)
    → IsReadOneWay FirstFits flat_first → {B : Type 0} (SecondFits : B → Type 0)
    → (flat_second : B → Bytes) → IsReadOneWay SecondFits flat_second
    → IsReadOneWay (IsPair FirstFits SecondFits) (flat_pair flat_first flat_second)
pair_one_way FirstFits flat_first first_way SecondFits flat_second second_way x y a b fits_x fits_y
    same =
    let first = first_way x.0 y.0 (flat_second x.1 ++ a) (flat_second y.1 ++ b) fits_x.0 fits_y.0
    (regrouped (flat_first x.0) (flat_second x.1) a (flat_first y.0) (flat_second y.1) b same) in
    let second = second_way x.1 y.1 a b fits_x.1 fits_y.1 first.1 in
    let both : x ≡ y = λ j. (first.0 j, second.0 j) in
    (both, second.1)

pub is_needed_number : (needed : Needed) → IsByte (needed_number needed)
is_needed_number one = omega arith
is_needed_number each_in_one_field = omega arith
is_needed_number each = omega arith

same_needed : (x y : Needed) → needed_number x ≡ needed_number y → x ≡ y
same_needed one one same = refl
same_needed each_in_one_field each_in_one_field same = refl
same_needed each each same = refl
same_needed one each_in_one_field same = absurd (omega (arith, same))
same_needed one each same = absurd (omega (arith, same))
same_needed each_in_one_field one same = absurd (omega (arith, same))
same_needed each_in_one_field each same = absurd (omega (arith, same))
same_needed each one same = absurd (omega (arith, same))
same_needed each each_in_one_field same = absurd (omega (arith, same))

pub needed_one_way : IsReadOneWay IsAnyNeeded flat_needed
needed_one_way x y a b fits_x fits_y same =
    let number = byte_one_way (needed_number x) (needed_number y) a b (is_needed_number x)
    (is_needed_number y) same in
    (same_needed x y number.0, number.1)

-- a search as pairs of its parts
abbrev pub Parts : Type 0
Parts = Bytes × (Needed × (Bool × (List Bytes × (List (Bytes × ℕ) × ℕ))))

abbrev pub PartsFit : Parts → Type 0
PartsFit = IsPair IsText (IsPair IsAnyNeeded (IsPair IsAnyTruth (IsPair AreTexts
    (IsPair (IsList IsBoost) IsNumber))))

abbrev pub flat_parts : Parts → Bytes
flat_parts = flat_pair flat_text (flat_pair flat_needed (flat_pair flat_truth (flat_pair flat_texts
    (flat_pair (flat_list flat_boost) flat_number))))

abbrev pub parts_of : Search → Parts
parts_of search = (
  search.query,
  (
    search.needed,
    (
      search.expand,
      (
        search.fields,
        (
          search.boosts,
          search.limit,
        ),
      ),
    ),
  ),
)

abbrev pub search_of : Parts → Search
search_of parts = record {
  query = parts.0;
  needed = parts.1.0;
  expand = parts.1.1.0;
  fields = parts.1.1.1.0;
  boosts = parts.1.1.1.1.0;
  limit = parts.1.1.1.1.1;
}

pub parts_fit : (search : Search) → IsSearch search → PartsFit (parts_of search)
parts_fit search fits = (fits.query, (tt, (tt, (fits.fields, (fits.boosts, fits.limit)))))

parts_one_way : IsReadOneWay PartsFit flat_parts
parts_one_way = pair_one_way IsText flat_text text_one_way _ _
    (pair_one_way IsAnyNeeded flat_needed needed_one_way _ _
    (pair_one_way IsAnyTruth flat_truth truth_one_way _ _
    (pair_one_way AreTexts flat_texts texts_one_way _ _
    (pair_one_way (IsList IsBoost) (flat_list flat_boost)
    (list_one_way IsBoost flat_boost (pair_one_way IsText flat_text text_one_way IsByte flat_number
    byte_one_way)) IsNumber flat_number number_one_way))))

pub search_one_way : IsReadOneWay IsSearch flat_search
search_one_way x y a b fits_x fits_y same =
    let parts = parts_one_way (parts_of x) (parts_of y) a b (parts_fit x fits_x) (parts_fit y fits_y)
    same in
    (ap search_of parts.0, parts.1)
