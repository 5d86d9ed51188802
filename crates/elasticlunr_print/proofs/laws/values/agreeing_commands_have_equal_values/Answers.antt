use Rattle.elasticlunr_print.proofs.Unique.{value_agreed}
use Rattle.elasticlunr_print.proofs.laws.values.agreeing_commands_have_equal_values.Goals as goal

pub returns : goal.returns
returns c plan left right v w agree one two = c.settings_and_commands_have_one_value.ensures plan right v w
    (value_agreed plan left right v agree one) two
