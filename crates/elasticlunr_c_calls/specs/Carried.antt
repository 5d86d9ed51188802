-- A value as an index takes it, and what it is in the flat form; for private clauses.
use Rattle.std.specs.Prelude.{map}
use Rattle.elasticlunr.specs.declared.values.FieldValue.{FieldValue}
use Rattle.elasticlunr.specs.declared.values.TokenSource.{TokenSource}
use Rattle.elasticlunr.specs.declared.values.TokenSource.TheVariants.{AsGiven, FromText}
use Rattle.elasticlunr.specs.declared.values.TokenSource.TheVariants.{IntoPipeline}
use Rattle.elasticlunr_flat.specs.Flat as flat

abbrev pub source_told : TokenSource → flat.Tokens
source_told FromText = flat.from_text
source_told (IntoPipeline tokens) = flat.into_pipeline (map (λ token. token.now) tokens.now)
source_told (AsGiven tokens) = flat.as_given (map (λ token. token.now) tokens.now)

abbrev pub field_told : FieldValue → flat.Value
field_told value = record { text = value.text.now; tokens = source_told value.tokens }
