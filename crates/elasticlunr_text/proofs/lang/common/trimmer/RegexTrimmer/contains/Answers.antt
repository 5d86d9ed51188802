use Rattle.elasticlunr_text.proofs.lang.common.trimmer.RegexTrimmer.contains.Goals as goal

pub returns : goal.returns
returns c = c.contains.ensures
