-- On the documents that values are, and the keys of their texts.
use Rattle.std.proofs.Common.{◌≡◌, ◌∷◌, ◌<◌, ℕ, zero, suc, List, [], length, get_or}
use Rattle.std.proofs.Common.{Option, Some, None, IsSome, is_some, true≢false, slice_get, sym, ap, subst, ◌∙◌, arith}
use Rattle.serde_json.specs.Data.{Data}
use Rattle.elasticlunr_text.specs.Text.{Bytes}
use Rattle.elasticlunr_job_format.specs.Job.{Document}
use Rattle.elasticlunr_job_format.specs.Objects.{Options, AreDocumentsOf, HasProblem, HasTexts, IsDocumentOf}
use Rattle.elasticlunr_job_format.specs.Objects.{reference_of, text_of}
use Rattle.elasticlunr_job_format.specs.declared.objects.ObjectFault.{ObjectFault}
use Rattle.elasticlunr_job_format.specs.declared.objects.ObjectFault.TheVariants.{NotJson, NotAnObject, NoReference}
use Rattle.elasticlunr_job_format.specs.declared.objects.ObjectFault.TheVariants.{NotAReference, NotAText}

-- each of these values is a document
pub document_at : (options : Options) (items : List Data) (docs : List Document) (i : ℕ) (d : Data) → i < length items
    → AreDocumentsOf options items docs → (doc : Document) × IsDocumentOf options (get_or items i d) doc
document_at options [] docs i d less are = absurd (omega arith)
document_at options (item ∷ items) [] i d less are = absurd are
document_at options (item ∷ items) (doc ∷ docs) zero d less are = (doc, are.0)
document_at options (item ∷ items) (doc ∷ docs) (suc i) d less are = document_at options items docs i d (omega arith) are.1

-- each field has a text
field_text : (options : Options) (d : Data) (fields texts : List Bytes) (i : ℕ) (field : Bytes)
    → HasTexts options d fields texts → slice_get fields i ≡ Some field
    → (text : Bytes) × (text_of options d field ≡ Some text)
field_text options d [] texts i field has there = absurd (cc there)
field_text options d (first ∷ fields) [] i field has there = absurd has
field_text options d (first ∷ fields) (text ∷ texts) zero field has there =
    let same : first ≡ field = cc there in
    (text, subst (λ f. text_of options d f ≡ Some text) same has.0)
field_text options d (first ∷ fields) (text ∷ texts) (suc i) field has there =
    field_text options d fields texts i field has.1 there

none_some : {X : Type 0} (o : Option X) (x : X) → o ≡ None → o ≡ Some x → ⊥
none_some o x none some = cc (none, some)

-- a value without an object
no_object : {X : Type 0} (o : Option X) → IsSome o → o ≡ None → ⊥
no_object o is none = true≢false (sym is ∙ ap is_some none)

-- a document has no problem
pub no_problem : (options : Options) (d : Data) (doc : Document) (problem : ObjectFault) → IsDocumentOf options d doc
    → HasProblem options d problem → ⊥
no_problem options d doc NotJson is has = has
no_problem options d doc (NotAnObject found) is has = no_object _ is.is_object has.0
no_problem options d doc NoReference is has = none_some _ is.reference.0 has.1 is.reference.1
no_problem options d doc (NotAReference found) is has =
    let same : is.reference.0 ≡ has.0 = cc (is.reference.1, has.1) in
    none_some _ doc.reference has.2 (ap reference_of (sym same) ∙ is.reference.2)
no_problem options d doc (NotAText i found) is has =
    let first = has.2 in
    let text = field_text options d options.fields doc.values i first.field is.values first.there in
    none_some _ text.0 first.no_text.2 text.1
