-- On what all documents of an input leave in the notes.
use Rattle.std.proofs.Common.{◌≡◌, ◌∷◌, ◌++◌, ◌+◌, ◌||◌, ◌==◌, ◌^◌, ◌-◌, ℕ, Bool, true, List, [], length, map, min}
use Rattle.std.proofs.Common.{Option, Some, bytes_eq, refl, sym, ap, subst, ◌∙◌, arith, if◌then◌else◌}
use Rattle.std.proofs.Common.{append-nil, append_assoc, codes, suc, Result, Ok, Err, OnOk}
use Rattle.std.proofs.Common.{◌<◌, get_or, take}
use Rattle.std.proofs.Math.Bool.{or-false, or_assoc}
use Rattle.std.proofs.lemmas.List.{get_or-map, length-map}
use Rattle.elasticlunr_text.specs.Text.{Bytes, is_listed}
use Rattle.std.specs.BTreeSet.{contains_text}
use Rattle.std.specs.Option.{option_map_or}
use Rattle.serde_json.specs.Data.{Data}
use Rattle.elasticlunr_job_format.specs.Job.{Document}
use Rattle.elasticlunr_job_format.specs.JobTold.{document_told}
use Rattle.elasticlunr_job_format.specs.declared.job.Document as job
use Rattle.elasticlunr_job_format.specs.Objects.{IsDocumentOf, Options}
use Rattle.elasticlunr_input.specs.Noted.{document_warnings, has_value, HasSameLimits, texts_keys, too_long_of}
use Rattle.elasticlunr_input.specs.NotedAll.{all_end_warnings, all_warnings, AreNoted, documents_warnings}
use Rattle.elasticlunr_input.specs.NotedAll.{has_values, IsNoted, IsToldOf, next_number, Told, told_of_job}
use Rattle.elasticlunr_input.specs.Warnings.{end_warnings, fields_warnings, has_text, is_known, last_number}
use Rattle.elasticlunr_input.specs.Warnings.{NumbersReference, property_warnings, reference_warnings, textless_warnings, unindexed_text, warnings_of}
use Rattle.elasticlunr_input.specs.declared.notes.Notes.{Notes}
use Rattle.elasticlunr_input.proofs.Noting.{same_new_keys}
use Rattle.elasticlunr_input.proofs.Warned.{map_more}

-- one document more
pub noted_more : (old mid new : Notes) (told : List Told) (next : Told) → AreNoted old mid told
    → IsNoted mid new next → AreNoted old new (told ++ next ∷ [])
noted_more old mid new [] next is noted = (new, subst (λ notes. IsNoted notes new next) is noted, refl)
noted_more old mid new (first ∷ told) next (after, noted_first, others) noted =
    (after, noted_first, noted_more after mid new told next others noted)

-- what follows where a call succeeds
pub on_more : {T E P Q : Type 0} (r : Result T E) → OnOk r P → (P → Q) → OnOk r Q
on_more (Ok x) p more = more p
on_more (Err e) p more = tt

-- a document that an object is
pub noted_object : {T E : Type 0} (r : Result T E) (options : Options) (d : Data) (old new : Notes) (doc : Document)
    → IsDocumentOf options d doc → OnOk r (new.taken ≡ next_number old.taken)
    → OnOk r (warnings_of new ≡ warnings_of old ++ document_warnings new.taken doc.reference
    (last_number old doc.reference) (is_known old) (texts_keys d))
    → OnOk r (NumbersReference old new doc.reference new.taken)
    → OnOk r ((key : Bytes) → is_known new key ≡ (is_known old key || is_listed key (texts_keys d)))
    → OnOk r ((number : ℕ) → has_text new number ≡ (has_text old number || has_value doc.values number))
    → OnOk r (new.longer ≡ min (old.longer + too_long_of old doc.values) (2 ^ 64 - 1)) → HasSameLimits old new
    → OnOk r ((other : Document) → IsDocumentOf options d other
    → (told : Told) × IsToldOf options d told × IsNoted old new told)
noted_object (Ok x) options d old new doc is taken warnings number known texts words limits = λ other is_other. (
  (doc, texts_keys d),
  (is, refl),
  record {
    taken = taken;
    warnings = warnings;
    number = number;
    known = known;
    texts = texts;
    words = words;
    limits = limits;
  },
)
noted_object (Err e) options d old new doc is taken warnings number known texts words limits = tt

-- a document of a job
pub noted_document : (old new : Notes) (doc : Document) → new.taken ≡ next_number old.taken
    → warnings_of new ≡ warnings_of old ++ reference_warnings new.taken doc.reference (last_number old doc.reference)
    → NumbersReference old new doc.reference new.taken
    → ((number : ℕ) → has_text new number ≡ (has_text old number || has_value doc.values number))
    → new.longer ≡ min (old.longer + too_long_of old doc.values) (2 ^ 64 - 1) → new.known ≡ old.known
    → HasSameLimits old new → IsNoted old new (doc, [])
noted_document old new doc taken warnings number texts words known limits = record {
  taken = taken;
  warnings = warnings ∙ ap (λ ws. warnings_of old ++ ws)
      (sym (append-nil (reference_warnings new.taken doc.reference (last_number old doc.reference))));
  number = number;
  known = λ key. ap (λ held. option_map_or (λ keys. contains_text keys key) held true) known
      ∙ sym (or-false (is_known old key));
  texts = texts;
  words = words;
  limits = limits;
}

-- how many documents a job has
pub told_long : (docs : List job.Document) → length (told_of_job (map document_told docs)) ≡ length docs
told_long [] = refl
told_long (doc ∷ docs) = ap suc (told_long docs)

-- the documents of a job, and one more
pub one_told : (docs : List job.Document) (i : ℕ) (doc : job.Document) → i < length docs → doc ≡ get_or docs i doc
    → take i (told_of_job (map document_told docs)) ++ (document_told doc, []) ∷ []
    ≡ take (i + 1) (told_of_job (map document_told docs))
one_told docs i doc less is =
    let told : Document → Told = λ each. (each, []) in
    let long = length-map docs document_told in
    let here : get_or (map document_told docs) i (document_told doc) ≡ document_told doc =
    get_or-map document_told docs i doc (document_told doc) less ∙ ap document_told (sym is) in
    sym (map_more told (map document_told docs) i (document_told doc) (omega (arith, less, long))
    ∙ ap (λ d. take i (told_of_job (map document_told docs)) ++ (d, []) ∷ []) here)

-- the warnings of a document depend on what is known of each key
same_warnings_of_one : (number : ℕ) (reference : Bytes) (before : Option ℕ) (p q : Bytes → Bool) (keys : List Bytes)
    → ((key : Bytes) → p key ≡ q key)
    → document_warnings number reference before p keys ≡ document_warnings number reference before q keys
same_warnings_of_one number reference before p q keys same =
    ap (λ ks. reference_warnings number reference before ++ map (unindexed_text number reference) ks)
    (same_new_keys p q keys same)

-- those of all depend on the number of each reference, and on what is known of each key
same_warnings : (taken : ℕ) (last other : Bytes → Option ℕ) (p q : Bytes → Bool) (told : List Told)
    → ((r : Bytes) → last r ≡ other r) → ((key : Bytes) → p key ≡ q key)
    → documents_warnings taken last p told ≡ documents_warnings taken other q told
same_warnings taken last other p q [] are same = refl
same_warnings taken last other p q (first ∷ told) are same =
    let number = next_number taken in
    let reference = first.0.reference in
    let rest = documents_warnings number (λ r. if bytes_eq reference r then Some number else last r)
    (λ key. p key || is_listed key first.1) told in
    ap (λ before. document_warnings number reference before p first.1 ++ rest) (are reference)
    ∙ (ap (λ ws. ws ++ rest) (same_warnings_of_one number reference (other reference) p q first.1 same)
    ∙ ap (λ ws. document_warnings number reference (other reference) q first.1 ++ ws)
    (same_warnings number (λ r. if bytes_eq reference r then Some number else last r)
    (λ r. if bytes_eq reference r then Some number else other r)
    (λ key. p key || is_listed key first.1) (λ key. q key || is_listed key first.1) told
    (λ r. ap (λ o. if bytes_eq reference r then Some number else o) (are r))
    (λ key. ap (λ b. b || is_listed key first.1) (same key))))

-- the warnings of the documents that were noted
pub warnings_noted : (old new : Notes) (told : List Told) → AreNoted old new told
    → warnings_of new ≡ warnings_of old ++ documents_warnings old.taken (last_number old) (is_known old) told
warnings_noted old new [] is = ap warnings_of is ∙ sym (append-nil (warnings_of old))
warnings_noted old new (first ∷ told) (next, noted, others) =
    let number = next_number old.taken in
    let reference = first.0.reference in
    let its = document_warnings number reference (last_number old reference) (is_known old) first.1 in
    let rest = λ (taken : ℕ). documents_warnings taken (last_number next) (is_known next) told in
    let left = documents_warnings number (λ r. if bytes_eq reference r then Some number else last_number old r)
    (λ key. is_known old key || is_listed key first.1) told in
    let here : warnings_of next ≡ warnings_of old ++ its = noted.warnings
    ∙ ap (λ n. warnings_of old ++ document_warnings n reference (last_number old reference) (is_known old) first.1)
    noted.taken in
    let later : rest next.taken ≡ left = ap rest noted.taken
    ∙ same_warnings number (last_number next) (λ r. if bytes_eq reference r then Some number else last_number old r)
    (is_known next) (λ key. is_known old key || is_listed key first.1) told
    (λ r. noted.number r ∙ ap (λ n. if bytes_eq reference r then Some n else last_number old r) noted.taken)
    noted.known in
    warnings_noted next new told others
    ∙ (ap (λ ws. ws ++ rest next.taken) here
    ∙ (append_assoc (warnings_of old) its (rest next.taken)
    ∙ ap (λ ws. warnings_of old ++ (its ++ ws)) later))

-- the fields that have a text in one of the documents that were noted
pub texts_noted : (old new : Notes) (told : List Told) → AreNoted old new told
    → (number : ℕ) → has_text new number ≡ (has_text old number || has_values told number)
texts_noted old new [] is number = ap (λ notes. has_text notes number) is ∙ sym (or-false (has_text old number))
texts_noted old new (first ∷ told) (next, noted, others) number =
    texts_noted next new told others number
    ∙ (ap (λ b. b || has_values told number) (noted.texts number)
    ∙ or_assoc (has_text old number) (has_value first.0.values number) (has_values told number))

-- whether there was a document
taken_noted : (old new : Notes) (told : List Told) → AreNoted old new told
    → (new.taken == 0) ≡ (old.taken + length told == 0)
taken_noted old new [] is =
    ap (λ n. n == 0) (ap (λ (notes : Notes). notes.taken) is ∙ omega arith)
taken_noted old new (first ∷ told) (next, noted, others) =
    let at_least : ((next.taken + length told == 0) ≡ (old.taken + (length told + 1) == 0)) =
    some_taken next.taken old.taken (length told) noted.taken in
    taken_noted next new told others ∙ (at_least ∙ ap (λ n. n == 0) (omega arith))
  where
    some_taken : (next old long : ℕ) → next ≡ min (old + 1) (2 ^ 64 - 1)
        → (next + long == 0) ≡ (old + (long + 1) == 0)
    some_taken next old long is = grind arith

-- the warnings of fields depend on which of them have a text
same_fields : (p q : ℕ → Bool) (fields : List Bytes) → ((number : ℕ) → p number ≡ q number)
    → fields_warnings p fields ≡ fields_warnings q fields
same_fields p q [] same = refl
same_fields p q (field ∷ fields) same =
    ap (λ b. (textless_warnings b field ++ property_warnings field)
    ++ fields_warnings (λ number. p (suc number)) fields) (same 0)
    ∙ ap (λ ws. (textless_warnings (q 0) field ++ property_warnings field) ++ ws)
    (same_fields (λ number. p (suc number)) (λ number. q (suc number)) fields (λ number. same (suc number)))

-- all warnings of documents and fields
pub all_noted : (old last new : Notes) (told : List Told) (fields : List Bytes) → AreNoted old last told
    → warnings_of new ≡ warnings_of last ++ end_warnings last fields → warnings_of new ≡ warnings_of old ++ all_warnings old told fields
all_noted old last new told fields noted ends =
    let its = documents_warnings old.taken (last_number old) (is_known old) told in
    let empty = codes "the index is empty: there is no document" ∷ [] in
    let same : end_warnings last fields ≡ all_end_warnings old told fields =
    ap (λ b. if b then empty else fields_warnings (has_text last) fields) (taken_noted old last told noted)
    ∙ ap (λ ws. if old.taken + length told == 0 then empty else ws)
    (same_fields (has_text last) (λ number. has_text old number || has_values told number) fields
    (texts_noted old last told noted)) in
    ends ∙ (ap (λ ws. ws ++ end_warnings last fields) (warnings_noted old last told noted)
    ∙ (append_assoc (warnings_of old) its (end_warnings last fields)
    ∙ ap (λ ws. warnings_of old ++ (its ++ ws)) same))
