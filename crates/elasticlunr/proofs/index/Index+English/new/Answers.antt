use Rattle.elasticlunr.proofs.Holding.{if_ok}
use Rattle.elasticlunr.proofs.index.Index+English.new.Goals as goal

pub returns-clause-duplicate : goal.returns-clause-duplicate
returns-clause-duplicate g c = c.with_language.ensures.duplicate

pub returns-clause-differ : goal.returns-clause-differ
returns-clause-differ g c = c.with_language.ensures.differ

pub returns-clause-given : goal.returns-clause-given
returns-clause-given g c = if_ok c.with_language.result _ _ (λ index is english. is) c.with_language.ensures.given

pub returns-clause-plan : goal.returns-clause-plan
returns-clause-plan g c = if_ok c.with_language.result _ _ (λ index is english. is) c.with_language.ensures.plan

pub returns-clause-after : goal.returns-clause-after
returns-clause-after g c = if_ok c.with_language.result _ _ (λ index is english. is) c.with_language.ensures.after

pub returns-clause-errors : goal.returns-clause-errors
returns-clause-errors g c = c.with_language.ensures.errors

pub returns-clause-empty : goal.returns-clause-empty
returns-clause-empty g c = c.with_language.ensures.empty

pub returns-clause-kept : goal.returns-clause-kept
returns-clause-kept g c = c.with_language.ensures.kept

pub returns-clause-leaves : goal.returns-clause-leaves
returns-clause-leaves g c = if_ok c.with_language.result _ _ (λ index is english. is) c.with_language.ensures.leaves

pub returns-clause-reads : goal.returns-clause-reads
returns-clause-reads g c = if_ok c.with_language.result _ _ (λ index is english. is) c.with_language.ensures.reads
