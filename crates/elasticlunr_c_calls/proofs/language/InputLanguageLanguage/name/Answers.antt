use Rattle.std.proofs.Common.{rules}
use Rattle.elasticlunr_c_calls.proofs.language.InputLanguageLanguage.name.Goals as goal

pub returns-in-BuiltIn : goal.returns-in-BuiltIn
returns-in-BuiltIn c = search rules

pub returns-in-Own : goal.returns-in-Own
returns-in-Own c = search rules
