use Rattle.std.proofs.Common.{ap, ◌∙◌}
use Rattle.serde_json.specs.Data.{boolean}
use Rattle.serde_json.specs.Written.{has_float}
use Rattle.elasticlunr_store.specs.Options.{bool_value, options_object, options_of}
use Rattle.elasticlunr_store.proofs.WrittenOptions.{no_float, small_boosts}
use Rattle.elasticlunr_store.proofs.config.SearchOptions.to_value.Goals as goal

pub returns-clause-whole : goal.returns-clause-whole
returns-clause-whole c =
    let value = c.in_ok-whole_value.ensures
    ∙ ap (options_object (bool_value c.args.self.now.bool) (boolean c.args.self.now.expand))
    c.in_ok-fields.ensures in
    ap has_float value ∙ no_float (options_of c.args.self.now)

pub returns-clause-small : goal.returns-clause-small
returns-clause-small c = small_boosts (options_of c.args.self.now)

pub returns-clause-value : goal.returns-clause-value
returns-clause-value c = c.in_ok-whole_value.ensures
    ∙ ap (options_object (bool_value c.args.self.now.bool) (boolean c.args.self.now.expand)) c.in_ok-fields.ensures
