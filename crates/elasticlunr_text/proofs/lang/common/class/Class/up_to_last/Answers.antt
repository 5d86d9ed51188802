use Rattle.std.proofs.Common.{rules}
use Rattle.std.proofs.lemmas.Fn.{always_returns_same}
use Rattle.elasticlunr_text.specs.Classes.{in_class}
use Rattle.elasticlunr_text.proofs.TrimLemmas.{up_to_last-trim_by}
use Rattle.elasticlunr_text.proofs.lang.common.class.Class.up_to_last.Goals as goal

pub returns : goal.returns
returns c =
    up_to_last-trim_by (in_class c.args.self.now) _ c.args.text.now c.trim_end_matches.result.now
    c.utf8.text c.trim_end_matches.ensures.matches (always_returns_same _ _ _ (λ a r f' k. search rules))
