-- Bytes have one job.
use Rattle.std.proofs.Common.{◌≡◌, ℕ, List, [], ◌∷◌, map, Bool, Option, Some, refl, sym, ap, subst, ◌∙◌}
use Rattle.serde_json.specs.Data.{Data, boolean, string}
use Rattle.serde_json.specs.Find.{as_str, as_bool}
use Rattle.elasticlunr_job_format.specs.Job.{Document, Job, IsJob, texts, document}
use Rattle.elasticlunr_job_format.specs.Reading.{reading}
use Rattle.elasticlunr_job.specs.Answer.{HasJob}
use Rattle.elasticlunr_job_format.proofs.JobValues.{same_items}

pub same_some : {X : Type 0} (o : Option X) (x y : X) → o ≡ Some x → o ≡ Some y → x ≡ y
same_some o x y e f = cc

same_string : (s t : List ℕ) → string s ≡ string t → s ≡ t
same_string s t e = let h : Some s ≡ Some t = ap as_str e in cc

same_boolean : (a b : Bool) → boolean a ≡ boolean b → a ≡ b
same_boolean a b e = let h : Some a ≡ Some b = ap as_bool e in cc

same_strings : (ss ts : List (List ℕ)) → map string ss ≡ map string ts → ss ≡ ts
same_strings [] [] e = refl
same_strings [] (t ∷ ts) e = cc
same_strings (s ∷ ss) [] e = cc
same_strings (s ∷ ss) (t ∷ ts) e =
    let head : string s ≡ string t = cc in
    let first : s ≡ t = same_string s t head in
    let rest : ss ≡ ts = same_strings ss ts cc in cc

same_texts : (ss ts : List (List ℕ)) → texts ss ≡ texts ts → ss ≡ ts
same_texts ss ts e = same_strings ss ts (same_items _ _ e)

same_document : (a b : Document) → document a ≡ document b → a ≡ b
same_document a b e =
    let all = same_texts (a.reference ∷ a.values) (b.reference ∷ b.values) e in
    let first : a.reference ≡ b.reference = cc in
    let rest : a.values ≡ b.values = cc in
    let one : a ≡ record { reference = b.reference; values = a.values } =
    ap (λ r. record { reference = r; values = a.values }) first in
    one ∙ ap (λ vs. record { reference = b.reference; values = vs }) rest

same_documents : (ds es : List Document) → map document ds ≡ map document es → ds ≡ es
same_documents [] [] e = refl
same_documents [] (d ∷ es) e = cc
same_documents (d ∷ ds) [] e = cc
same_documents (d ∷ ds) (b ∷ es) e =
    let head : document d ≡ document b = cc in
    let first : d ≡ b = same_document d b head in
    let rest : ds ≡ es = same_documents ds es cc in cc

one_job : (d : Data) (j k : Job) → IsJob d j → IsJob d k → j ≡ k
one_job d j k a b =
    let fields : j.fields ≡ k.fields = same_texts _ _ (same_some _ _ _ a.fields b.fields) in
    let docs : j.docs ≡ k.docs = same_documents _ _ (same_items _ _ (same_some _ _ _ a.docs b.docs)) in
    let reference_field : j.reference_field ≡ k.reference_field = same_string _ _ (sym a.reference_field
    ∙ b.reference_field) in
    let save : j.save ≡ k.save = same_boolean _ _ (sym a.save ∙ b.save) in
    let language : j.language ≡ k.language = same_string _ _ (sym a.language ∙ b.language) in
    let pretty : j.pretty ≡ k.pretty = same_boolean _ _ (sym a.pretty ∙ b.pretty) in
    let remove : j.remove ≡ k.remove = same_texts _ _ (sym a.remove ∙ b.remove) in
    let compact : j.compact ≡ k.compact = same_boolean _ _ (sym a.compact ∙ b.compact) in
    λ i. record {
      fields = fields i;
      docs = docs i;
      reference_field = reference_field i;
      save = save i;
      language =
          language i;
      pretty = pretty i;
      remove = remove i;
      compact = compact i;
    }

pub one_input : (bytes : List ℕ) (j k : Job) → HasJob bytes j → HasJob bytes k → j ≡ k
one_input bytes j k a b =
    let same : a.0 ≡ b.0 = same_some (reading bytes) a.0 b.0 a.1 b.1 in
    one_job b.0 j k (subst (λ d. IsJob d j) same a.2) b.2
