use Rattle.std.proofs.Common.{string_bytes, subst}
use Rattle.elasticlunr_ranking.specs.Order.{told_hits}
use Rattle.elasticlunr_search.specs.Standing.{kept_contents}
use Rattle.elasticlunr_hits.specs.Lines.{AreLinesIn}
use Rattle.elasticlunr_hits.proofs.lines.found_lines.Goals as goal

pub returns-clause-lines : goal.returns-clause-lines
returns-clause-lines g c = (
  told_hits c.in_ok-hits.hits.items,
  c.in_ok-hits.ensures.hits,
  subst (λ hs. AreLinesIn c.args.form (kept_contents c.args.searcher.now) (told_hits hs)
      (string_bytes c.in_ok-text.text)) c.deref.ensures.value c.in_ok-text.ensures,
)
