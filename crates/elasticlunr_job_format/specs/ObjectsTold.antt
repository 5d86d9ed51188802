-- Options and documents of `src/`, as their texts.
use Rattle.std.specs.Prelude.{◌≡◌, ⊤, List, [], Option, Some, None, map, option_map, unwrap_or, string_bytes}
use Rattle.std.specs.Borrow.{Bor}
use Rattle.serde_json.specs.Data.{Data, string}
use Rattle.serde_json.specs.Find.{as_str, get}
use Rattle.elasticlunr_error.specs.Text.{Bytes}
use Rattle.elasticlunr_job_format.specs.Job.{Document, get_or}
use Rattle.elasticlunr_job_format.specs.Kinds.{kind_of}
use Rattle.elasticlunr_job_format.specs.Objects.{HasReference, HasText, HasTexts}
use Rattle.elasticlunr_job_format.specs.Objects.{IsFirstWithoutText}
use Rattle.elasticlunr_job_format.specs.declared.kind.Kind.{Kind}
use Rattle.elasticlunr_job_format.specs.Objects as spec
use Rattle.elasticlunr_job_format.specs.Rules.{given_rules}
use Rattle.elasticlunr_job_format.specs.declared.objects.AddError.{AddError}
use Rattle.elasticlunr_job_format.specs.declared.objects.AddError.TheVariants as add
use Rattle.elasticlunr_job_format.specs.declared.objects.Object.{Object}
use Rattle.elasticlunr_job_format.specs.declared.objects.Options.{Options}
use Rattle.elasticlunr_job_format.specs.declared.objects.ObjectFault.{ObjectFault}
use Rattle.elasticlunr_job_format.specs.declared.objects.ObjectFault.TheVariants.{NotAText}

abbrev pub texts_told : List (Bor Bytes) → List Bytes
texts_told = map (λ s. s.now)

abbrev pub options_told : Options → spec.Options
options_told options = record {
  reference_key = options.reference_key.now;
  reference_field = options.reference_field.now;
  fields = texts_told options.fields.items;
  language = options.language.now;
  save = options.save;
  pretty = options.pretty;
  rules = given_rules options.rules;
}

-- the text of a field, which is the reference where none is kept
abbrev pub text_or : (reference : Bytes) → Option (Bor Bytes) → Bytes
text_or reference text = unwrap_or (option_map (λ s. s.now) text) reference

abbrev pub object_told : Object → Document
object_told object = record {
  reference = string_bytes object.reference;
  values = map
      (text_or (string_bytes object.reference)) object.texts.items;
}

-- it is out of memory, or a problem that there is
abbrev pub IsMemoryOr : (ObjectFault → Type 0) → AddError → Type 0
IsMemoryOr Is add.Memory = ⊤
IsMemoryOr Is (add.ObjectFault problem) = Is problem

-- the problem of an object, which has a reference, is that a field has no text
abbrev pub HasFieldProblem : spec.Options → Data → List Bytes → ObjectFault → Type 0
HasFieldProblem options d fields (NotAText i found) = (reference : Bytes)
    → HasReference options d reference → IsFirstWithoutText options d fields i found
HasFieldProblem options d fields _ = ⊥

-- a field has this text, or the reference where none is given
abbrev pub HasTextOr : spec.Options → Data → Bytes → Option (Bor Bytes) → Type 0
HasTextOr options d field text = (reference : Bytes) → HasReference options d reference
    → HasText options d field (text_or reference text)

-- so have all of these
abbrev pub HaveTextsOr : spec.Options → Data → List Bytes → List (Option (Bor Bytes)) → Type 0
HaveTextsOr options d fields texts = (reference : Bytes) → HasReference options d reference
    → HasTexts options d fields (map (text_or reference) texts)

-- what stands under the key of a field is this text, the empty one where nothing does
abbrev pub IsUnder : Data → Bytes → Bytes → Type 0
IsUnder d field text = as_str (get_or field d (string [])) ≡ Some text

-- what stands there is of this kind, and no text
abbrev pub IsNoTextUnder : Data → Bytes → Kind → Type 0
IsNoTextUnder d field found = (member : Data) × (get field d ≡ Some member)
    × (as_str member ≡ None) × (found ≡ kind_of member)
