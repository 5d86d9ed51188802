use Rattle.elasticlunr_lang.proofs.OneLanguage.{one-language_leaves}
use Rattle.elasticlunr_lang.proofs.laws.a_kept_language_leaves_one_answer.Goals as goal

pub returns : goal.returns
returns c = one-language_leaves
