use Rattle.std.specs.Str.{chars}
use Rattle.std.proofs.lemmas.Str.{scalars-chars}
use Rattle.elasticlunr_hits.proofs.WordTexts.{word_texts}
use Rattle.elasticlunr_hits.proofs.hits.words_are_texts.Goals as goal

pub returns : goal.returns
returns c = word_texts (chars c.args.query.now) (scalars-chars c.args.query.now c.utf8.query)
