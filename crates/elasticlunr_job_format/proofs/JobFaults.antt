-- Faults of a value, and the job of a value that has none.
use Rattle.std.proofs.Common.{◌≡◌, ◌==◌, ◌<◌, ◌≤◌, ◌+◌, ◌-◌, ◌++◌, ℕ, zero, suc, List, [], ◌∷◌, length, map, take}
use Rattle.std.proofs.Common.{get_or, true, false, codes, Option, None, Some, IsSome, IfSome, IfNone, is_some}
use Rattle.std.proofs.Common.{unwrap_or, option_map, true≢false, inl, inr, refl, sym, ap, subst, ◌∙◌, arith}
use Rattle.std.proofs.lemmas.Bool.{cases_lt}
use Rattle.std.proofs.lemmas.List.{map-append, map_more, take-map, take_all}
use Rattle.std.proofs.lemmas.Option.{slice_get-map, slice_get-get_or}
use Rattle.std.specs.List.{slice_get}
use Rattle.elasticlunr_json.proofs.ReadingMaps.{array_of}
use Rattle.serde_json.specs.Data.{Data, null, boolean, number, string, array, object, no_items}
use Rattle.serde_json.specs.Find.{as_array, as_bool, as_object, as_str, get}
use Rattle.serde_json.specs.View.{view, items_of, items_view}
use Rattle.serde_json.specs.declared.value.Value.{Value}
use Rattle.elasticlunr_job_format.specs.Job.{IsNoJob, Job, IsJob, HasOnly, job_keys, texts, document}
use Rattle.elasticlunr_job_format.specs.Job as spec
use Rattle.elasticlunr_job_format.specs.FaultSteps.{AreDocuments, AreTexts, HasJobKeys, HasNeeded, IsADocument}
use Rattle.elasticlunr_job_format.specs.FaultSteps.{IsFirstMissing, IsFitUnder}
use Rattle.elasticlunr_job_format.specs.JobFaults.{turn_of, HasDocumentFault, HasFault, HasFirstFault, HasMemberFault}
use Rattle.elasticlunr_job_format.specs.JobFaults.{IsAJob, IsFirstNoDocument, IsFirstNoText}
use Rattle.elasticlunr_job_format.specs.JobKeys.{key_name, key_place, keys_in_order, wanted_under, IsWanted}
use Rattle.elasticlunr_job_format.specs.Kinds.{kind_of}
use Rattle.elasticlunr_job_format.specs.declared.fault.DocumentFault.{DocumentFault}
use Rattle.elasticlunr_job_format.specs.declared.fault.DocumentFault.TheVariants as doc
use Rattle.elasticlunr_job_format.specs.declared.fault.Fault.{Fault}
use Rattle.elasticlunr_job_format.specs.declared.fault.Fault.TheVariants.{NotAnObject, UnknownKey, Member, Missing}
use Rattle.elasticlunr_job_format.specs.declared.fault.MemberFault.{MemberFault}
use Rattle.elasticlunr_job_format.specs.declared.fault.MemberFault.TheVariants.{Other, Item, Document}
use Rattle.elasticlunr_job_format.specs.declared.key.Key.{Key}
use Rattle.elasticlunr_job_format.specs.declared.key.Key.TheVariants.{Fields, Docs, Ref, Save, Lang, Pretty, Remove}
use Rattle.elasticlunr_job_format.specs.declared.key.Key.TheVariants.{Compact}
use Rattle.elasticlunr_job_format.specs.declared.key.Wanted.{Wanted}
use Rattle.elasticlunr_job_format.specs.declared.key.Wanted.TheVariants.{Text, Truth, Texts, Documents}
use Rattle.elasticlunr_job_format.specs.declared.kind.Kind.{Kind}
use Rattle.elasticlunr_job_format.proofs.JobValues.{same_items}

-- ---- items, one after the other

text_is : (d : Data) → is_some (as_str d) ≡ true → (s : List ℕ) × (d ≡ string s)
text_is null e = absurd (true≢false (sym e))
text_is (boolean b) e = absurd (true≢false (sym e))
text_is (number n) e = absurd (true≢false (sym e))
text_is (string s) e = (s, refl)
text_is (array ds) e = absurd (true≢false (sym e))
text_is (object ms) e = absurd (true≢false (sym e))

pub none_from : {X : Type 0} (o : Option X) → is_some o ≡ false → o ≡ None
none_from None e = refl
none_from (Some x) e = absurd (true≢false e)

item_there : (vs : List Value) (i : ℕ) (v : Value) → i < length vs → v ≡ get_or vs i v → slice_get (map view vs) i
    ≡ Some (view v)
item_there vs i v lt at = slice_get-map view vs i
    ∙ (ap (option_map view) (slice_get-get_or vs i v lt) ∙ ap (λ w. Some (view w)) (sym at))

next_seen : (vs : List Value) (i : ℕ) (v : Value) → i < length vs → v ≡ get_or vs i v → map view (take (i + 1) vs)
    ≡ map view (take i vs) ++ view v ∷ []
next_seen vs i v lt at = map_more view vs i v lt ∙ ap (λ w. map view (take i vs) ++ view w ∷ []) (sym at)

-- the next item is a text, too
pub more_texts : (vs : List Value) (i : ℕ) (v : Value) → i < length vs → v ≡ get_or vs i v
    → AreTexts (map view (take i vs)) → is_some (as_str (view v)) ≡ true → AreTexts (map view (take (i + 1) vs))
more_texts vs i v lt at so_far is =
    let one : (s : List ℕ) × (view v ≡ string s) = text_is (view v) is in (
      so_far.0 ++ one.0 ∷ [],
      next_seen vs i v lt at ∙ (ap (λ ds. ds ++ view v ∷ []) so_far.1
          ∙ (ap (λ d. map string so_far.0 ++ d ∷ []) one.1 ∙ sym (map-append string so_far.0 (one.0 ∷ [])))),
    )

-- it is none
pub no_text_at : (vs : List Value) (i : ℕ) (v : Value) (found : Kind) → i < length vs → v ≡ get_or vs i v
    → AreTexts (map view (take i vs)) → is_some (as_str (view v)) ≡ false → found ≡ kind_of (view v)
    → IsFirstNoText (map view vs) i found
no_text_at vs i v found lt at so_far is kind = record {
  item = view v;
  before = so_far.0;
  texts = take-map view i vs ∙ so_far.1;
  there = item_there vs i v lt at;
  no_text = none_from _ is;
  kind = kind;
}

pub all_texts : (vs : List Value) (i : ℕ) → length vs ≤ i → AreTexts (map view (take i vs)) → AreTexts (map view vs)
all_texts vs i past so_far = (so_far.0, ap (map view) (sym (take_all i vs past)) ∙ so_far.1)

-- the next item is a document, too
pub more_documents : (vs : List Value) (i : ℕ) (v : Value) → i < length vs → v ≡ get_or vs i v
    → AreDocuments (map view (take i vs)) → IsADocument (view v) → AreDocuments (map view (take (i + 1) vs))
more_documents vs i v lt at so_far one = (
  so_far.0 ++ one.0 ∷ [],
  next_seen vs i v lt at ∙ (ap (λ ds. ds ++ view v ∷ []) so_far.1
      ∙ (ap (λ d. map document so_far.0 ++ d ∷ []) one.1 ∙ sym (map-append document so_far.0 (one.0 ∷ [])))),
)

-- it is none
pub no_document_at : (vs : List Value) (i : ℕ) (v : Value) (fault : DocumentFault) → i < length vs → v ≡ get_or vs i v
    → AreDocuments (map view (take i vs)) → HasDocumentFault (view v) fault → IsFirstNoDocument (map view vs) i fault
no_document_at vs i v fault lt at so_far has = record {
  item = view v;
  before = so_far.0;
  documents = take-map view i vs ∙ so_far.1;
  there = item_there vs i v lt at;
  has = has;
}

pub all_documents : (vs : List Value) (i : ℕ) → length vs ≤ i → AreDocuments (map view (take i vs))
    → AreDocuments (map view vs)
all_documents vs i past so_far = (so_far.0, ap (map view) (sym (take_all i vs past)) ∙ so_far.1)

-- ---- an array, and its items

pub texts_wanted : (d : Data) (vs : List Value) → Some (items_view vs) ≡ as_array d → AreTexts (map view vs)
    → IsWanted Texts d
texts_wanted d vs is all = (all.0, array_of d (items_view vs) is ∙ ap (λ ds. array (items_of ds)) all.1)

pub documents_wanted : (d : Data) (vs : List Value) → Some (items_view vs) ≡ as_array d → AreDocuments (map view vs)
    → IsWanted Documents d
documents_wanted d vs is all = (all.0, array_of d (items_view vs) is ∙ ap (λ ds. array (items_of ds)) all.1)

document_of : (d : Data) (v : Value) (vs : List Value) (ss : List (List ℕ)) → Some (items_view (v ∷ vs)) ≡ as_array d
    → map view (v ∷ vs) ≡ map string ss → IsADocument d
document_of d v vs [] is all = cc
document_of d v vs (s ∷ ss) is all = (
  record { reference = s; values = ss },
  array_of d (items_view (v ∷ vs)) is
      ∙ ap (λ ds. array (items_of ds)) all,
)

pub a_document : (d : Data) (vs : List Value) → Some (items_view vs) ≡ as_array d → (length vs == 0) ≡ false
    → AreTexts (map view vs) → IsADocument d
a_document d [] is some all = absurd (true≢false some)
a_document d (v ∷ vs) is some all = document_of d v vs all.0 is all.1

pub if_none : {X : Type 0} {P : Type 0} (o : Option X) → P → IfNone o P
if_none None p = p
if_none (Some x) p = tt

pub a_text : (d : Data) → is_some (as_str d) ≡ true → IsWanted Text d
a_text d e = text_is d e

pub boolean_from : (d : Data) → is_some (as_bool d) ≡ true → IsWanted Truth d
boolean_from null e = absurd (true≢false (sym e))
boolean_from (boolean b) e = (b, refl)
boolean_from (number n) e = absurd (true≢false (sym e))
boolean_from (string s) e = absurd (true≢false (sym e))
boolean_from (array ds) e = absurd (true≢false (sym e))
boolean_from (object ms) e = absurd (true≢false (sym e))

-- ---- what is wanted has no fault

text_at : (o : Option (List ℕ)) (d : Data) → option_map string o ≡ Some d → as_str d ≡ None → ⊥
text_at None d e none = cc
text_at (Some s) d e none = (let same : string s ≡ d = cc in let some : as_str (string s) ≡ None = ap as_str same
    ∙ none in cc)

no_text_in : (ss : List (List ℕ)) (ds : List Data) (i : ℕ) (found : Kind) → map string ss ≡ ds
    → IsFirstNoText ds i found → ⊥
no_text_in ss ds i found same h =
    text_at (slice_get ss i) h.item (sym (slice_get-map string ss i) ∙ (ap (λ ds. slice_get ds i) same ∙ h.there))
    h.no_text

array_is : (d : Data) (ds es : List Data) → d ≡ array (items_of ds) → as_array d ≡ Some (items_of es) → ds ≡ es
array_is d ds es is seen =
    let some : Some (items_of ds) ≡ Some (items_of es) = ap as_array (sym is) ∙ seen in
    same_items ds es (ap array (cc))

no_document_fault : (d : Data) (one : spec.Document) (fault : DocumentFault) → d ≡ document one
    → HasDocumentFault d fault → ⊥
no_document_fault d one (doc.NotAList found) is h = (let e : as_array (document one) ≡ None = ap as_array (sym is)
    ∙ h.0 in cc)
no_document_fault d one doc.Empty is h = (let e : as_array (document one) ≡ Some no_items = ap as_array (sym is)
    ∙ h in cc)
no_document_fault d one (doc.Item i found) is h = no_text_in (one.reference ∷ one.values) h.0 i found
    (array_is d (map string (one.reference ∷ one.values)) h.0 is h.1) h.2

document_at : (o : Option spec.Document) (d : Data) → option_map document o ≡ Some d → IsADocument d
document_at None d e = cc
document_at (Some one) d e = (one, cc)

no_documents_fault : (docs : List spec.Document) (items : List Data) (i : ℕ) (fault : DocumentFault) → map document docs
    ≡ items → IsFirstNoDocument items i fault → ⊥
no_documents_fault docs items i fault same h =
    let one = document_at (slice_get docs i) h.item (sym (slice_get-map document docs i)
    ∙ (ap (λ ds. slice_get ds i) same ∙ h.there)) in
    no_document_fault h.item one.0 fault one.1 h.has

pub no_member_fault : (wanted : Wanted) (d : Data) (fault : MemberFault) → IsWanted wanted d
    → HasMemberFault wanted d fault → ⊥
no_member_fault Text d (Other found) is h = (let e : as_str (string is.0) ≡ None = ap as_str (sym is.1) ∙ h.0 in cc)
no_member_fault Truth d (Other found) is h = (let e : as_bool (boolean is.0) ≡ None = ap as_bool (sym is.1) ∙ h.0 in cc)
no_member_fault Texts d (Other found) is h = (let e : as_array (texts is.0) ≡ None = ap as_array (sym is.1) ∙ h.0 in cc)
no_member_fault Documents d (Other found) is h = (let e : as_array (array (items_of (map document is.0)))
    ≡ None = ap as_array (sym is.1) ∙ h.0 in cc)
no_member_fault Texts d (Item i found) is h = no_text_in is.0 h.0 i found (array_is d (map string is.0) h.0 is.1 h.1)
    h.2
no_member_fault Documents d (Document i fault) is h = no_documents_fault is.0 h.0 i fault
    (array_is d (map document is.0) h.0 is.1 h.1) h.2
no_member_fault Text d (Item i found) is h = h
no_member_fault Text d (Document i fault) is h = h
no_member_fault Truth d (Item i found) is h = h
no_member_fault Truth d (Document i fault) is h = h
no_member_fault Texts d (Document i fault) is h = h
no_member_fault Documents d (Item i found) is h = h

-- ---- a value with a fault is no job

no_members : (d : Data) (key : List ℕ) (member : Data) → as_object d ≡ None → get key d ≡ Some member → ⊥
no_members null key member none e = cc
no_members (boolean b) key member none e = cc
no_members (number n) key member none e = cc
no_members (string s) key member none e = cc
no_members (array ds) key member none e = cc
no_members (object ms) key member none e = cc

same_some : (o : Option Data) (x y : Data) → o ≡ Some x → o ≡ Some y → x ≡ y
same_some o x y e f = cc

given : (o : Option Data) (absent member x : Data) → o ≡ Some member → unwrap_or o absent ≡ x → member ≡ x
given o absent member x e f = sym (ap (λ p. unwrap_or p absent) e) ∙ f

fits_of_job : (key : Key) (d : Data) (job : Job) (member : Data) → IsJob d job → get (key_name key) d ≡ Some member
    → IsWanted (wanted_under key) member
fits_of_job Fields d job member is e = (job.fields, same_some _ _ _ e is.fields)
fits_of_job Docs d job member is e = (job.docs, same_some _ _ _ e is.docs)
fits_of_job Ref d job member is e = (job.reference_field, given _ _ _ _ e is.reference_field)
fits_of_job Save d job member is e = (job.save, given _ _ _ _ e is.save)
fits_of_job Lang d job member is e = (job.language, given _ _ _ _ e is.language)
fits_of_job Pretty d job member is e = (job.pretty, given _ _ _ _ e is.pretty)
fits_of_job Remove d job member is e = (job.remove, given _ _ _ _ e is.remove)
fits_of_job Compact d job member is e = (job.compact, given _ _ _ _ e is.compact)

not_there : (o : Option Data) (x : Data) → o ≡ None → o ≡ Some x → ⊥
not_there o x e f = cc

pub fault_no_job : (d : Data) (fault : Fault) → HasFault d fault → IsNoJob d
fault_no_job d (NotAnObject found) h job is = no_members d (codes "fields") (texts job.fields) h.0 is.fields
fault_no_job d (UnknownKey key) h job is = h.1 (is.no_others key.now h.0)
fault_no_job d (Member key fault) h job is = no_member_fault (wanted_under key) h.0 fault
    (fits_of_job key d job h.0 is h.1) h.2
fault_no_job d (Missing Fields) h job is = not_there _ _ h.2 is.fields
fault_no_job d (Missing Docs) h job is = not_there _ _ h.2 is.docs
fault_no_job d (Missing Ref) h job is = h.0
fault_no_job d (Missing Save) h job is = h.0
fault_no_job d (Missing Lang) h job is = h.0
fault_no_job d (Missing Pretty) h job is = h.0
fault_no_job d (Missing Remove) h job is = h.0
fault_no_job d (Missing Compact) h job is = h.0

-- ---- a value without a fault is a job

needed : (o : Option Data) (P : Data → Type 0) → IfSome o P → IsSome o → (member : Data) × (o ≡ Some member) × P member
needed None P fits some = absurd (true≢false (sym some))
needed (Some x) P fits some = (x, refl, fits)

given_or : (o : Option Data) (absent : Data) (P : Data → Type 0) → IfSome o P → P absent → P (unwrap_or o absent)
given_or None absent P fits default = default
given_or (Some x) absent P fits default = fits

pub job_from : (d : Data) → HasJobKeys d → ((key : Key) → IsFitUnder d key) → HasNeeded d → IsAJob d
job_from d keys fits both =
    let fields = needed (get (codes "fields") d) (IsWanted Texts) (fits Fields) both.fields in
    let docs = needed (get (codes "docs") d) (IsWanted Documents) (fits Docs) both.docs in
    let reference = given_or (get (codes "ref") d) (string (codes "id")) (IsWanted Text) (fits Ref) (codes "id", refl)
    in
    let save = given_or (get (codes "save") d) (boolean true) (IsWanted Truth) (fits Save) (true, refl) in
    let language = given_or (get (codes "lang") d) (string (codes "English")) (IsWanted Text) (fits Lang)
    (codes "English", refl) in
    let pretty = given_or (get (codes "pretty") d) (boolean false) (IsWanted Truth) (fits Pretty) (false, refl) in
    let remove = given_or (get (codes "remove") d) (texts []) (IsWanted Texts) (fits Remove) ([], refl) in
    let compact = given_or (get (codes "compact") d) (boolean false) (IsWanted Truth) (fits Compact) (false, refl) in (
      record {
        fields = fields.2.0;
        docs = docs.2.0;
        reference_field = reference.0;
        save = save.0;
        language = language.0;
        pretty = pretty.0;
        remove = remove.0;
        compact = compact.0;
      },
      record {
        fields = fields.1 ∙ ap Some fields.2.1;
        docs = docs.1 ∙ ap Some docs.2.1;
        reference_field = reference.1;
        save = save.1;
        language = language.1;
        pretty = pretty.1;
        remove = remove.1;
        compact = compact.1;
        no_others = keys.only;
      },
    )

-- ---- the order of keys

pub place_least : (key : Key) → 1 ≤ key_place key
place_least Fields = omega arith
place_least Docs = omega arith
place_least Ref = omega arith
place_least Save = omega arith
place_least Lang = omega arith
place_least Pretty = omega arith
place_least Remove = omega arith
place_least Compact = omega arith

pub place_most : (key : Key) → key_place key ≤ 8
place_most Fields = omega arith
place_most Docs = omega arith
place_most Ref = omega arith
place_most Save = omega arith
place_most Lang = omega arith
place_most Pretty = omega arith
place_most Remove = omega arith
place_most Compact = omega arith

-- a key at a place of the list has the next number
place_at : (i : ℕ) (e : Key) → i < 8 → key_place (get_or keys_in_order i e) ≡ i + 1
place_at zero e lt = refl
place_at (suc zero) e lt = refl
place_at (suc (suc zero)) e lt = refl
place_at (suc (suc (suc zero))) e lt = refl
place_at (suc (suc (suc (suc zero)))) e lt = refl
place_at (suc (suc (suc (suc (suc zero))))) e lt = refl
place_at (suc (suc (suc (suc (suc (suc zero)))))) e lt = refl
place_at (suc (suc (suc (suc (suc (suc (suc zero))))))) e lt = refl
place_at (suc (suc (suc (suc (suc (suc (suc (suc i)))))))) e lt = absurd (omega (arith, lt))

pub place_in : (keys : List Key) (i : ℕ) (e : Key) → keys ≡ keys_in_order → i < 8 → key_place (get_or keys i e) ≡ i + 1
place_in keys i e is lt = ap (λ ks. key_place (get_or ks i e)) is ∙ place_at i e lt

pub all_places : (d : Data) (keys : List Key) (i : ℕ) → keys ≡ keys_in_order → 8 ≤ i
    → ((k : Key) → key_place k ≤ i → IsFitUnder d k) → (k : Key) → IsFitUnder d k
all_places d keys i is past fits k = let most = place_most k in fits k (omega arith)

-- keys of one place are one key
listed : (key : Key) → get_or keys_in_order (key_place key - 1) Fields ≡ key
listed Fields = refl
listed Docs = refl
listed Ref = refl
listed Save = refl
listed Lang = refl
listed Pretty = refl
listed Remove = refl
listed Compact = refl

pub same_place : (a b : Key) → key_place a ≡ key_place b → a ≡ b
same_place a b e = sym (listed a) ∙ (ap (λ n. get_or keys_in_order (n - 1) Fields) e ∙ listed b)

-- ---- the first fault

no_key_fault : (d : Data) (fault : Fault) → HasJobKeys d → HasFault d fault → 1 ≤ turn_of fault
no_key_fault d (NotAnObject found) keys h = absurd (true≢false (sym keys.is_object ∙ ap is_some h.0))
no_key_fault d (UnknownKey key) keys h = absurd (h.1 (keys.only key.now h.0))
no_key_fault d (Member key fault) keys h = place_least key
no_key_fault d (Missing key) keys h = let least = place_least key in omega arith

fit_no_fault : (o : Option Data) (member : Data) (wanted : Wanted) (fault : MemberFault) → IfSome o (IsWanted wanted)
    → o ≡ Some member → HasMemberFault wanted member fault → ⊥
fit_no_fault None member wanted fault fits e h = cc
fit_no_fault (Some x) member wanted fault fits e h =
    (let same : x ≡ member = cc in no_member_fault wanted member fault (subst (IsWanted wanted) same fits) h)

pub first_key_fault : (d : Data) (fault : Fault) → HasFault d fault → turn_of fault ≡ 0 → HasFirstFault d fault
first_key_fault d fault h e = record { has = h; first = λ other g. omega arith }

later_member : (d : Data) (key : Key) → HasJobKeys d → ((k : Key) → key_place k < key_place key → IsFitUnder d k)
    → (other : Fault) → HasFault d other → key_place key ≤ turn_of other
later_member d key keys fits (NotAnObject found) g = absurd (true≢false (sym keys.is_object ∙ ap is_some g.0))
later_member d key keys fits (UnknownKey k) g = absurd (g.1 (keys.only k.now g.0))
later_member d key keys fits (Member k fault) g = elim (cases_lt (key_place k) (key_place key))
    [ inl lt ↦ absurd (fit_no_fault _ g.0 (wanted_under k) fault (fits k lt) g.1 g.2) | inr le ↦ le ]
later_member d key keys fits (Missing k) g = let most = place_most key in omega arith

pub first_member_fault : (d : Data) (key : Key) (fault : MemberFault) → HasJobKeys d
    → ((k : Key) → key_place k < key_place key → IsFitUnder d k) → HasFault d (Member key fault)
    → HasFirstFault d (Member key fault)
first_member_fault d key fault keys fits h = record { has = h; first = later_member d key keys fits }

not_some : (o : Option Data) → IsSome o → o ≡ None → ⊥
not_some o some none = true≢false (sym some ∙ ap is_some none)

later_missing : (d : Data) (key : Key) → HasJobKeys d → ((k : Key) → IsFitUnder d k) → IsFirstMissing d key
    → (other : Fault) → HasFault d other → 8 + key_place key ≤ turn_of other
later_missing d key keys fits gone (NotAnObject found) g = absurd (true≢false (sym keys.is_object ∙ ap is_some g.0))
later_missing d key keys fits gone (UnknownKey k) g = absurd (g.1 (keys.only k.now g.0))
later_missing d key keys fits gone (Member k fault) g =
    absurd (fit_no_fault _ g.0 (wanted_under k) fault (fits k) g.1 g.2)
later_missing d Fields keys fits gone (Missing k) g = let least = place_least k in omega arith
later_missing d Docs keys fits gone (Missing Fields) g = absurd (not_some _ gone.0 g.2)
later_missing d Docs keys fits gone (Missing Docs) g = omega arith
later_missing d Docs keys fits gone (Missing Ref) g = absurd g.0
later_missing d Docs keys fits gone (Missing Save) g = absurd g.0
later_missing d Docs keys fits gone (Missing Lang) g = absurd g.0
later_missing d Docs keys fits gone (Missing Pretty) g = absurd g.0
later_missing d Docs keys fits gone (Missing Remove) g = absurd g.0
later_missing d Docs keys fits gone (Missing Compact) g = absurd g.0
later_missing d Ref keys fits gone (Missing k) g = absurd gone
later_missing d Save keys fits gone (Missing k) g = absurd gone
later_missing d Lang keys fits gone (Missing k) g = absurd gone
later_missing d Pretty keys fits gone (Missing k) g = absurd gone
later_missing d Remove keys fits gone (Missing k) g = absurd gone
later_missing d Compact keys fits gone (Missing k) g = absurd gone

missing_there : (d : Data) (key : Key) → HasJobKeys d → IsFirstMissing d key → HasFault d (Missing key)
missing_there d Fields keys gone = (tt, keys.is_object, gone)
missing_there d Docs keys gone = (tt, keys.is_object, gone.1)
missing_there d Ref keys gone = absurd gone
missing_there d Save keys gone = absurd gone
missing_there d Lang keys gone = absurd gone
missing_there d Pretty keys gone = absurd gone
missing_there d Remove keys gone = absurd gone
missing_there d Compact keys gone = absurd gone

pub first_missing_fault : (d : Data) (key : Key) → HasJobKeys d → ((k : Key) → IsFitUnder d k) → IsFirstMissing d key
    → HasFirstFault d (Missing key)
first_missing_fault d key keys fits gone =
    record { has = missing_there d key keys gone; first = later_missing d key keys fits gone }
