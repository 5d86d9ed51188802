use Rattle.std.proofs.Common.{rules}
use Rattle.elasticlunr_lang.proofs.kept_language.AnyLanguageImpl.name.Goals as goal

pub returns : goal.returns
returns g c = search rules
