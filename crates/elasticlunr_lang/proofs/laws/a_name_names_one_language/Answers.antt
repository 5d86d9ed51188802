use Rattle.elasticlunr_lang.proofs.OneLanguage.{same-language_name}
use Rattle.elasticlunr_lang.proofs.laws.a_name_names_one_language.Goals as goal

pub returns : goal.returns
returns c = same-language_name
