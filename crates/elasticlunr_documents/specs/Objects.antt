-- Documents as JSON objects: the text of their index, and why there is none.
use Rattle.std.specs.Prelude.{List, [], ⊤, false}
use Rattle.serde_json.specs.Data.{Data}
use Rattle.elasticlunr_text.specs.Text.{Bytes}
use Rattle.elasticlunr_job.specs.Answer.{FailsAt, IsMadeBy, IsPrintedLine, OfIndex}
use Rattle.elasticlunr_job_format.specs.Job.{Document, Job}
use Rattle.elasticlunr_job_format.specs.Objects.{Options, AreDocumentsOf, IsFirstProblem}
use Rattle.elasticlunr_documents.specs.declared.objects.ObjectsError.{ObjectsError}
use Rattle.elasticlunr_documents.specs.declared.objects.ObjectsError.TheVariants as error

-- the job of these documents
abbrev pub job_of : Options → List Document → Job
job_of options docs = record {
  fields = options.fields;
  docs = docs;
  reference_field = options.reference_field;
  save = options.save;
  language = options.language;
  pretty = options.pretty;
  remove = [];
  compact = false;
}

-- this holds of the index of the documents that the values are, under the rules of the options
abbrev pub IsMadeOfObjects : Options → List Data → OfIndex → Type 0
IsMadeOfObjects options items Is = (docs : List Document) × AreDocumentsOf options items docs
    × IsMadeBy options.rules (job_of options docs) Is

-- the text of the index of the documents that the values are, and a line feed
abbrev pub IsLineOfObjects : Options → List Data → Bytes → Type 0
IsLineOfObjects options items text = IsMadeOfObjects options items (IsPrintedLine text)

-- why no index of the values is printed: the first that is no document, or else the check that
-- their job fails first
abbrev pub FailsObjects : Options → List Data → ObjectsError → Type 0
FailsObjects options items error.Memory = ⊤
FailsObjects options items (error.Document place problem) = IsFirstProblem options items place
    problem
FailsObjects options items (error.Refused refusal) = (docs : List Document)
    × AreDocumentsOf options items docs × FailsAt (job_of options docs) refusal
