use Rattle.elasticlunr.proofs.builder.IndexBuilder.add_field.Goals as goal

pub returns-clause-duplicate : goal.returns-clause-duplicate
returns-clause-duplicate g c = c.with_field.ensures.duplicate

pub returns-clause-chosen : goal.returns-clause-chosen
returns-clause-chosen g c = c.with_field.ensures.chosen

pub returns-clause-errors : goal.returns-clause-errors
returns-clause-errors g c = c.with_field.ensures.errors
