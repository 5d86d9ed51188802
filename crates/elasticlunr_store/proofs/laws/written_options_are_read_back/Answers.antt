use Rattle.elasticlunr_store.specs.Options.{options_value, ReadsOptions}
use Rattle.elasticlunr_store.proofs.OneOptions.{one_options}
use Rattle.elasticlunr_json.proofs.Refusals.{read_back}
use Rattle.elasticlunr_store.proofs.WrittenOptions.{written}
use Rattle.elasticlunr_store.proofs.laws.written_options_are_read_back.Goals as goal

pub returns : goal.returns
returns c options answer ok err =
    read_back (ReadsOptions (options_value options)) _ options answer
    (λ other reads. one_options (options_value options) other options reads (written options))
    (λ none. none options (written options)) ok err
