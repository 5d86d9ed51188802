use Rattle.std.proofs.Common.{◌∙◌}
use Rattle.elasticlunr_search.proofs.searcher.Searcher.texts.Goals as goal

pub returns-in-Ok-clause-texts : goal.returns-in-Ok-clause-texts
returns-in-Ok-clause-texts g c language plan commands stands = c.in-Ok.ensures.ok
    ∙ stands.read.holds.store.texts c.args.reference.now

pub returns-in-Ok-clause-kept : goal.returns-in-Ok-clause-kept
returns-in-Ok-clause-kept g c = c.in-Ok.ensures.ok
