use Rattle.std.proofs.Common.{rules}
use Rattle.elasticlunr_lang.proofs.kept_language.AnyLanguageImpl.code.Goals as goal

pub returns : goal.returns
returns g c = search rules
