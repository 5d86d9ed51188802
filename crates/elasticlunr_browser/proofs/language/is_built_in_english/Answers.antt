use Rattle.std.proofs.Common.{sym}
use Rattle.elasticlunr_browser.proofs.LanguageLemmas.{other_language}
use Rattle.elasticlunr_browser.proofs.language.is_built_in_english.Goals as goal

pub returns-in_default : goal.returns-in_default
returns-in_default c = sym (other_language c.args.language c.in_default.not-English)
