use Rattle.elasticlunr_text.proofs.EndingLemmas.{before-split, before-none}
use Rattle.elasticlunr_text.proofs.lang.en.endings.before.Goals as goal

pub returns-clause-split : goal.returns-clause-split
returns-clause-split c = before-split c.args.word.now c.args.suffix.now c.strip_suffix.result c.utf8.word c.requires
    c.strip_suffix.ensures.cases

pub returns-clause-none : goal.returns-clause-none
returns-clause-none c = before-none c.args.word.now c.args.suffix.now c.strip_suffix.result c.utf8.word c.requires
    c.strip_suffix.ensures.cases
