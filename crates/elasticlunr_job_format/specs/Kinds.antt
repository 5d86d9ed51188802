-- The kinds of JSON values.
use Rattle.serde_json.specs.Data.{Data, null, boolean, number, string, array, object}
use Rattle.elasticlunr_job_format.specs.declared.kind.Kind.{Kind}
use Rattle.elasticlunr_job_format.specs.declared.kind.Kind.TheVariants as kind

abbrev pub kind_of : Data → Kind
kind_of null = kind.Null
kind_of (boolean b) = kind.Boolean
kind_of (number n) = kind.Number
kind_of (string text) = kind.Text
kind_of (array items) = kind.Array
kind_of (object pairs) = kind.Object
