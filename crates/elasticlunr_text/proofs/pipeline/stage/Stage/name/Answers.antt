use Rattle.std.proofs.Common.{rules}
use Rattle.elasticlunr_text.proofs.pipeline.stage.Stage.name.Goals as goal

pub returns-in-EnglishTrimmer : goal.returns-in-EnglishTrimmer
returns-in-EnglishTrimmer g c = rw c.in-EnglishTrimmer.is c.from_str.ensures.ok

pub returns-in-StopWords : goal.returns-in-StopWords
returns-in-StopWords g c = search rules

pub returns-in-Class : goal.returns-in-Class
returns-in-Class g c = search rules

pub returns-in-EnglishStemmer : goal.returns-in-EnglishStemmer
returns-in-EnglishStemmer g c = search rules

pub returns-in-ArabicStemmer : goal.returns-in-ArabicStemmer
returns-in-ArabicStemmer g c = search rules

pub returns-in-Keep : goal.returns-in-Keep
returns-in-Keep g c = search rules

pub returns-in-Function : goal.returns-in-Function
returns-in-Function g c = search rules

pub returns-in-TableStemmer : goal.returns-in-TableStemmer
returns-in-TableStemmer g c = search rules
