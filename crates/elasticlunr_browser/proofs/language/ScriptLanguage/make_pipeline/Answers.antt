use Rattle.elasticlunr_browser.proofs.language.ScriptLanguage.make_pipeline.Goals as goal

pub returns-in-BuiltIn-clause-leaves : goal.returns-in-BuiltIn-clause-leaves
returns-in-BuiltIn-clause-leaves g c = rw c.in-BuiltIn.is c.make_pipeline.ensures.leaves

pub returns-in-Hungarian-clause-leaves : goal.returns-in-Hungarian-clause-leaves
returns-in-Hungarian-clause-leaves g c = rw c.in-Hungarian.is c.make_pipeline-in-Hungarian.ensures.leaves
