use Rattle.std.proofs.Common.{ap, ◌∙◌, ◌++◌}
use Rattle.json.specs.Layout.{pretty}
use Rattle.json.specs.Tree.{json_tokens}
use Rattle.serde_json.specs.Written.{outline}
use Rattle.elasticlunr_print.specs.Parts.{plan_of_parts}
use Rattle.elasticlunr_print.proofs.ReadBack.{printed_reads}
use Rattle.elasticlunr_print.proofs.text.index_json_pretty.Goals as goal

pub returns-clause-text : goal.returns-clause-text
returns-clause-text c =
    let v = c.in_ok-write_index.ensures in
    let are = v.2 ∙ ap (λ ts. ts ++ json_tokens (outline v.0)) c.new-out.ensures in
    record {
      value = v.0;
      of_index = v.1;
      written = c.into_string.ensures.text ∙ ap pretty are;
      read_as = printed_reads (plan_of_parts c.args.parts) _ _ v.0 _ _ v.1.printed c.into_string.ensures.read are
          c.into_string.ensures.small;
    }
