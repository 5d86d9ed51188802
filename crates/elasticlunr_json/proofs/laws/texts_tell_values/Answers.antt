use Rattle.elasticlunr_json.proofs.Told.{compact_told, pretty_told}
use Rattle.elasticlunr_json.proofs.laws.texts_tell_values.Goals as goal

pub returns : goal.returns
returns c = record { compact = compact_told; pretty = pretty_told }
