use Rattle.std.proofs.Common.{rules, ◌≡◌}
use Rattle.elasticlunr_browser.proofs.PairLemmas.{pair_text}
use Rattle.elasticlunr_browser.proofs.pairs.pair_of.Goals as goal

pub returns-clause-some : goal.returns-clause-some
returns-clause-some g c =
    let same : c.in-Some.c ≡ c.args.code = search rules in (
      c.in-Some.ensures.cases,
      pair_text (g.M.CharChange.changed c.args.change.now) c.in_ok-pair.pair c.in-Some-2.text
          c.push_str.new.self c.as_str.result.now c.in-Some.c c.args.code c.in_ok-pair.ensures c.as_str.ensures.value
          c.in_ok-push_str.ensures.bytes (rw c.in-Some-2.is at c.in_ok-text.ensures) same,
    )
