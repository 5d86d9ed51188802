use Rattle.std.proofs.Common.{rules}
use Rattle.elasticlunr_text.proofs.pipeline.stage.Stage.filter.Goals as goal

pub returns-in-Function-clause-left : goal.returns-in-Function-clause-left
returns-in-Function-clause-left g c = rw c.in-Function.is c.filter-in-Function.ensures.answer

pub returns-in-EnglishTrimmer-clause-left : goal.returns-in-EnglishTrimmer-clause-left
returns-in-EnglishTrimmer-clause-left g c = search rules

pub returns-in-EnglishTrimmer-clause-always : goal.returns-in-EnglishTrimmer-clause-always
returns-in-EnglishTrimmer-clause-always g c = search rules

pub returns-in-StopWords-clause-left : goal.returns-in-StopWords-clause-left
returns-in-StopWords-clause-left g c = search rules

pub returns-in-StopWords-clause-always : goal.returns-in-StopWords-clause-always
returns-in-StopWords-clause-always g c = search rules

pub returns-in-Class-clause-left : goal.returns-in-Class-clause-left
returns-in-Class-clause-left g c = search rules

pub returns-in-Class-clause-always : goal.returns-in-Class-clause-always
returns-in-Class-clause-always g c = search rules

pub returns-in-EnglishStemmer-clause-left : goal.returns-in-EnglishStemmer-clause-left
returns-in-EnglishStemmer-clause-left g c = search rules

pub returns-in-EnglishStemmer-clause-always : goal.returns-in-EnglishStemmer-clause-always
returns-in-EnglishStemmer-clause-always g c = search rules

pub returns-in-ArabicStemmer-clause-left : goal.returns-in-ArabicStemmer-clause-left
returns-in-ArabicStemmer-clause-left g c = search rules

pub returns-in-ArabicStemmer-clause-always : goal.returns-in-ArabicStemmer-clause-always
returns-in-ArabicStemmer-clause-always g c = search rules

pub returns-in-Keep-clause-left : goal.returns-in-Keep-clause-left
returns-in-Keep-clause-left g c = search rules

pub returns-in-Keep-clause-always : goal.returns-in-Keep-clause-always
returns-in-Keep-clause-always g c = search rules

pub returns-in-Function-clause-always : goal.returns-in-Function-clause-always
returns-in-Function-clause-always g c = search rules

pub returns-in-Own-clause-always : goal.returns-in-Own-clause-always
returns-in-Own-clause-always g c = search rules

pub returns-in-TableStemmer-clause-left : goal.returns-in-TableStemmer-clause-left
returns-in-TableStemmer-clause-left g c = search rules

pub returns-in-TableStemmer-clause-always : goal.returns-in-TableStemmer-clause-always
returns-in-TableStemmer-clause-always g c = search rules
