-- What is read, apart from where it lies in memory.
use Rattle.std.specs.Prelude.{List, map}
use Rattle.std.specs.Borrow.{Bor}
use Rattle.elasticlunr_error.specs.Text.{Bytes}
use Rattle.elasticlunr_flat.specs.Flat as spec
use Rattle.elasticlunr_flat.specs.declared.form.Cutting.{Cutting}
use Rattle.elasticlunr_flat.specs.declared.form.Document.{Document}
use Rattle.elasticlunr_flat.specs.declared.form.GivenTokens.{GivenTokens}
use Rattle.elasticlunr_flat.specs.declared.form.GivenTokens.TheVariants.{FromText, IntoPipeline}
use Rattle.elasticlunr_flat.specs.declared.form.GivenTokens.TheVariants.{AsGiven}
use Rattle.elasticlunr_flat.specs.declared.form.Input.{Input}
use Rattle.elasticlunr_flat.specs.declared.form.LanguageName.{LanguageName}
use Rattle.elasticlunr_flat.specs.declared.form.LanguageName.TheVariants.{BuiltIn, Own, Stemmed}
use Rattle.elasticlunr_flat.specs.declared.form.Needed.{Needed}
use Rattle.elasticlunr_flat.specs.declared.form.Needed.TheVariants.{One, EachInOneField, Each}
use Rattle.elasticlunr_flat.specs.declared.form.Search.{Search}
use Rattle.elasticlunr_flat.specs.declared.form.Value.{Value}

abbrev pub texts_told : List (Bor Bytes) → List Bytes
texts_told texts = map (λ text. text.now) texts

abbrev pub language_told : LanguageName → spec.Language
language_told (BuiltIn name) = spec.built_in name.now
language_told (Own name stages) = spec.own name.now (texts_told stages.items)
language_told (Stemmed name) = spec.stemmed name.now

abbrev pub tokens_told : GivenTokens → spec.Tokens
tokens_told FromText = spec.from_text
tokens_told (IntoPipeline tokens) = spec.into_pipeline (texts_told tokens.items)
tokens_told (AsGiven tokens) = spec.as_given (texts_told tokens.items)

abbrev pub value_told : Value → spec.Value
value_told value = record { text = value.text.now; tokens = tokens_told value.tokens }

abbrev pub document_told : Document → spec.Document
document_told document = record {
  reference = document.reference.now;
  values = map value_told document.values.items;
}

abbrev pub input_told : Input → spec.Input
input_told input = record {
  language = language_told input.language;
  reference_field = input.reference_field.now;
  save = input.save;
  fields = texts_told input.fields.items;
  documents = map document_told input.documents.items;
}

abbrev pub cutting_told : Cutting → spec.Cutting
cutting_told cutting = record {
  title = cutting.title.now;
  size = cutting.size;
  input = input_told cutting.input;
}

abbrev pub needed_told : Needed → spec.Needed
needed_told One = spec.one
needed_told EachInOneField = spec.each_in_one_field
needed_told Each = spec.each

abbrev pub search_told : Search → spec.Search
search_told search = record {
  query = search.query.now;
  needed = needed_told search.needed;
  expand = search.expand;
  fields = texts_told search.fields.items;
  boosts = map (λ boost. (boost.0.now, boost.1)) search.boosts.items;
  limit = search.limit;
}
