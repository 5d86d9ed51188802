use Rattle.std.proofs.Common.{◌∙◌}
use Rattle.elasticlunr_job.proofs.Stops.{ok_more}
use Rattle.elasticlunr_c_calls.specs.Languages.{name_in}
use Rattle.elasticlunr_c_calls.proofs.Cutting.{parts_after}
use Rattle.elasticlunr_c_calls.proofs.pieces.CutterMake.make.Goals as goal

pub returns-clause-ok : goal.returns-clause-ok
returns-clause-ok g c = ok_more c.in_pieces.result _ _ (λ made has commands stands. record {
  parts = c.in_ok-parts.field-0;
  are_parts = parts_after name_in (λ z. (goal.PipelineFn-dyn g z).name_text z.1) c.args.index.now
      c.in_ok-parts.field-0 commands stands c.in_ok-parts.ensures.parts c.in_ok-parts.ensures.fields
      c.in_ok-parts.ensures.reference_field (c.in_ok-parts.ensures.language ∙ c.in_ok-names.ensures.language)
      (c.in_ok-parts.ensures.stages ∙ c.in_ok-names.ensures.stages);
  folder = has;
}) c.in_pieces.ensures.made
