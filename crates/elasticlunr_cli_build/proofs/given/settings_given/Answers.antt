use Rattle.std.proofs.Common.{rules}
use Rattle.elasticlunr_cli_build.proofs.given.settings_given.Goals as goal

pub returns : goal.returns
returns c = record {
  reference = search rules;
  fields = search rules;
  in_language = search rules;
  drops_texts = search rules;
  pretty = search rules;
  stems = c.get_flag-3.result;
  stems_given = search rules;
  rules = search rules;
  indexes_reference = search rules;
}
