use Rattle.std.proofs.Common.{rules, subst, sym}
use Rattle.elasticlunr_flat.specs.Told.{search_told}
use Rattle.elasticlunr_c_calls.specs.Searches.{AreFoundIn}
use Rattle.elasticlunr_c_calls.proofs.search.search_index.Goals as goal

pub returns-in-Ok-clause-ok : goal.returns-in-Ok-clause-ok
returns-in-Ok-clause-ok c = (
  c.asked_of.result,
  (search_told c.in_ok-search.search, record { fits = c.in_ok-search.ensures.fits; are = c.in_ok-search.ensures.ok }, c.asked_of.ensures),
  subst (AreFoundIn c.args.index.now c.asked_of.result) (sym c.in_ok-lines-in-Ok.ensures) c.in-Ok.ensures.found,
)

pub returns-clause-ok : goal.returns-clause-ok
returns-clause-ok c = (
  c.asked_of.result,
  (search_told c.in_ok-search.search, record { fits = c.in_ok-search.ensures.fits; are = c.in_ok-search.ensures.ok }, c.asked_of.ensures),
  c.in-Err.ensures.refused,
  search rules,
  c.in_ok-line-in-Err.ensures,
)
