use Rattle.std.proofs.Common.{◌≡◌, ℕ, List, String, Vec, vec_len, Option, Some, option_map}
use Rattle.std.specs.List.{slice_get}
use Rattle.std.specs.declared.alloc.Global.{Global}
use Rattle.elasticlunr_text.specs.Stages.{IsRunBy}
use Rattle.elasticlunr_text.specs.Text.{texts_of}
use Rattle.elasticlunr.specs.Documents.{IsGiven}
use Rattle.elasticlunr.specs.GivenTokens.{MayHave}
use Rattle.elasticlunr.specs.Index.{choices, reads}
use Rattle.elasticlunr.specs.declared.values.FieldValue.{FieldValue}
use Rattle.elasticlunr.proofs.settings.Settings.tokens_of_all.Given as goal

abbrev pub invariant-loop-i : goal.invariant-loop-i
invariant-loop-i g l = record {
  as_many : vec_len l.tokens ≡ l.i;
  each : (i : ℕ) (value : FieldValue) (left : Option (Vec (String Global) Global))
      → slice_get l.values i ≡ Some value → slice_get l.tokens.items i ≡ Some left
      → IsGiven (choices l.self).fields (choices l.self).reference_field
      (MayHave (reads g.L.Language.tokens_of (λ z. (goal.PipelineFn-dyn g z).leaves z.1) l.self)
      (IsRunBy (λ z. (goal.PipelineFn-dyn g z).leaves z.1) l.self.pipeline) value.tokens) i
      (record { value = value.text.now; tokens = option_map (λ v. texts_of v.items) left });
}
