-- Documents as JSON objects: the documents of a job that they are, and what is wrong with one that
-- is none.
use Rattle.std.specs.Prelude.{◌≡◌, ◌+◌, ◌&&◌, ℕ, List, [], Bool, not, take, slice_get}
use Rattle.std.specs.Prelude.{Option, Some, None, IsSome, bytes_eq, if◌then◌else◌}
use Rattle.std.specs.Fmt.{decimal}
use Rattle.std.specs.List.{AllZip}
use Rattle.serde_json.specs.Data.{Data, number, string, unsigned}
use Rattle.serde_json.specs.Find.{as_object, as_str, get}
use Rattle.elasticlunr_error.specs.Text.{Bytes}
use Rattle.elasticlunr_job_format.specs.Job.{Document, get_or}
use Rattle.elasticlunr_job_format.specs.Kinds.{kind_of}
use Rattle.elasticlunr_job_format.specs.Rules.{WordRules}
use Rattle.elasticlunr_job_format.specs.declared.kind.Kind.{Kind}
use Rattle.elasticlunr_job_format.specs.declared.objects.ObjectFault.{ObjectFault}
use Rattle.elasticlunr_job_format.specs.declared.objects.ObjectFault.TheVariants.{NotJson}
use Rattle.elasticlunr_job_format.specs.declared.objects.ObjectFault.TheVariants.{NotAnObject}
use Rattle.elasticlunr_job_format.specs.declared.objects.ObjectFault.TheVariants.{NoReference}
use Rattle.elasticlunr_job_format.specs.declared.objects.ObjectFault.TheVariants.{NotAReference}
use Rattle.elasticlunr_job_format.specs.declared.objects.ObjectFault.TheVariants.{NotAText}

-- how documents are read of objects, and what is made of them: under which key an object has its
-- reference, and under which name the index has it
pub record Options : Type 0 where
  pub reference_key : Bytes
  pub reference_field : Bytes
  pub fields : List Bytes
  pub language : Bytes
  pub save : Bool
  pub pretty : Bool
  pub rules : Option WordRules

-- the reference that a member is: a text as it is, a whole number as its decimal digits
abbrev pub reference_of : Data → Option Bytes
reference_of (string text) = Some text
reference_of (number (unsigned n)) = Some (decimal n)
reference_of _ = None

-- the object has this reference
abbrev pub HasReference : Options → Data → Bytes → Type 0
HasReference options d reference = (member : Data) × (get options.reference_key d ≡ Some member)
    × (reference_of member ≡ Some reference)

-- the reference is a field, this one: the index has the reference under another name
abbrev pub is_reference : Options → Bytes → Bool
is_reference options field = bytes_eq options.reference_key field
    && not (bytes_eq options.reference_key options.reference_field)

-- the text of a field, if it has one: what stands under its key, the empty text where nothing does;
-- where the field is the reference, a whole number there has a text, too
abbrev pub text_of : Options → Data → Bytes → Option Bytes
text_of options d field = if is_reference options field then reference_of
    (get_or field d (string [])) else as_str (get_or field d (string []))

abbrev pub HasText : Options → Data → Bytes → Bytes → Type 0
HasText options d field text = text_of options d field ≡ Some text

-- the texts of these fields, in order
abbrev pub HasTexts : Options → Data → List Bytes → List Bytes → Type 0
HasTexts options d fields texts = AllZip (HasText options d) fields texts

-- the value is this document: an object with a reference under its key, and with the text of each
-- field, in order
pub record IsDocumentOf (options : Options) (d : Data) (doc : Document) : Type 0 where
  pub is_object : IsSome (as_object d)
  pub reference : HasReference options d doc.reference
  pub values : HasTexts options d options.fields doc.values

-- the values are these documents, in order
abbrev pub AreDocumentsOf : Options → List Data → List Document → Type 0
AreDocumentsOf options items docs = AllZip (IsDocumentOf options) items docs

-- the field has no text, but a member of this kind
abbrev pub HasNoText : Options → Data → Bytes → Kind → Type 0
HasNoText options d field found = (member : Data) × (get field d ≡ Some member)
    × (text_of options d field ≡ None) × (found ≡ kind_of member)

-- the first of these fields that has no text
pub record IsFirstWithoutText (options : Options) (d : Data) (fields : List Bytes) (i : ℕ)
    (found : Kind) : Type 0 where
  pub field : Bytes
  pub texts : List Bytes
  pub before : HasTexts options d (take i fields) texts
  pub there : slice_get fields i ≡ Some field
  pub no_text : HasNoText options d field found

-- the check that the value fails first: it is an object, it has a reference, each field has a text
abbrev pub HasProblem : Options → Data → ObjectFault → Type 0
HasProblem options d NotJson = ⊥
HasProblem options d (NotAnObject found) = (as_object d ≡ None) × (found ≡ kind_of d)
HasProblem options d NoReference = IsSome (as_object d) × (get options.reference_key d ≡ None)
HasProblem options d (NotAReference found) = (member : Data)
    × (get options.reference_key d ≡ Some member) × (reference_of member ≡ None)
    × (found ≡ kind_of member)
HasProblem options d (NotAText i found) = (reference : Bytes) × HasReference options d reference
    × IsFirstWithoutText options d options.fields i found

-- the first value, by its number from 1, that is no document, and the check that it fails first
pub record IsFirstProblem (options : Options) (items : List Data) (place : ℕ)
    (problem : ObjectFault) : Type 0 where
  pub i : ℕ
  pub item : Data
  pub before : List Document
  pub place_is : place ≡ i + 1
  pub documents : AreDocumentsOf options (take i items) before
  pub there : slice_get items i ≡ Some item
  pub has : HasProblem options item problem
