use Rattle.elasticlunr_print.proofs.Held.{fields_held, language_held, store_held, tries_held}
use Rattle.elasticlunr_print.proofs.laws.values.values_hold_their_parts.Goals as goal

pub returns : goal.returns
returns c = record { fields = fields_held; store = store_held; language = language_held; tries = tries_held }
