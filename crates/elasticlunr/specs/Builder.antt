-- A builder, as its contracts see it.
use Rattle.std.specs.Prelude.{Option, string_bytes}
use Rattle.elasticlunr_text.specs.Text.{bytes_of}
use Rattle.elasticlunr_text.specs.declared.pipeline.run.Pipeline.{Pipeline}
use Rattle.elasticlunr.specs.Choices.{Choices}
use Rattle.elasticlunr.specs.declared.builder.IndexBuilder.{IndexBuilder}
use Rattle.elasticlunr.specs.declared.settings.Tokenizer.{Tokenizer}

-- what a builder was given
abbrev pub chosen : {L P X Y : Type 0} {O : X → Type 0} {F : Y → Type 0} {p : _} {g : _}
    → IndexBuilder L P X Y O F p g → Choices L (Option (Pipeline P X O p)) (Tokenizer Y F g)
chosen b = record {
  language = b.language;
  pipeline = b.pipeline;
  fields = bytes_of b.fields.items;
  tokenizers = b.tokenizers.items;
  reference_field = string_bytes b.ref_field;
  save = b.save;
}
