use Rattle.std.proofs.Common.{List, ℕ, Bor, lit<, sym, subst}
use Rattle.std.proofs.lemmas.Str.Pattern.{strip_suffix_char}
use Rattle.elasticlunr_diagnostics.specs.Script.{IsWithoutFeed}
use Rattle.elasticlunr_diagnostics.proofs.Scripts.{without_feed}
use Rattle.elasticlunr_diagnostics.proofs.script.without_feed.Goals as goal

pub returns : goal.returns
returns c = subst (λ (x : Bor (List ℕ)). IsWithoutFeed c.args.line.now x.now) (sym c.unwrap_or.ensures)
    (without_feed c.args.line c.strip_suffix.result (strip_suffix_char 10 c.args.line.now c.strip_suffix.result
    c.strip_suffix.ensures.cases (lit< tt)))
