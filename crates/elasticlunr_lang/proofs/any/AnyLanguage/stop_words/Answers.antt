use Rattle.std.proofs.Common.{sym, ap}
use Rattle.elasticlunr_lang.specs.StopWords.{language_stop_words, english_stop_words, danish_stop_words}
use Rattle.elasticlunr_lang.specs.StopWords.{dutch_stop_words, finnish_stop_words, french_stop_words, german_stop_words}
use Rattle.elasticlunr_lang.specs.StopWords.{italian_stop_words, korean_stop_words, norwegian_stop_words}
use Rattle.elasticlunr_lang.specs.StopWords.{portuguese_stop_words, romanian_stop_words, russian_stop_words}
use Rattle.elasticlunr_lang.specs.StopWords.{spanish_stop_words, swedish_stop_words, turkish_stop_words}
use Rattle.elasticlunr_lang.proofs.any.AnyLanguage.stop_words.Goals as goal

pub returns-in-English : goal.returns-in-English
unfolding english_stop_words
returns-in-English c = ap language_stop_words (sym c.in-English.is)

pub returns-in-Danish : goal.returns-in-Danish
unfolding danish_stop_words
returns-in-Danish c = ap language_stop_words (sym c.in-Danish.is)

pub returns-in-Dutch : goal.returns-in-Dutch
unfolding dutch_stop_words
returns-in-Dutch c = ap language_stop_words (sym c.in-Dutch.is)

pub returns-in-Finnish : goal.returns-in-Finnish
unfolding finnish_stop_words
returns-in-Finnish c = ap language_stop_words (sym c.in-Finnish.is)

pub returns-in-French : goal.returns-in-French
unfolding french_stop_words
returns-in-French c = ap language_stop_words (sym c.in-French.is)

pub returns-in-German : goal.returns-in-German
unfolding german_stop_words
returns-in-German c = ap language_stop_words (sym c.in-German.is)

pub returns-in-Italian : goal.returns-in-Italian
unfolding italian_stop_words
returns-in-Italian c = ap language_stop_words (sym c.in-Italian.is)

pub returns-in-Korean : goal.returns-in-Korean
unfolding korean_stop_words
returns-in-Korean c = ap language_stop_words (sym c.in-Korean.is)

pub returns-in-Norwegian : goal.returns-in-Norwegian
unfolding norwegian_stop_words
returns-in-Norwegian c = ap language_stop_words (sym c.in-Norwegian.is)

pub returns-in-Portuguese : goal.returns-in-Portuguese
unfolding portuguese_stop_words
returns-in-Portuguese c = ap language_stop_words (sym c.in-Portuguese.is)

pub returns-in-Romanian : goal.returns-in-Romanian
unfolding romanian_stop_words
returns-in-Romanian c = ap language_stop_words (sym c.in-Romanian.is)

pub returns-in-Russian : goal.returns-in-Russian
unfolding russian_stop_words
returns-in-Russian c = ap language_stop_words (sym c.in-Russian.is)

pub returns-in-Spanish : goal.returns-in-Spanish
unfolding spanish_stop_words
returns-in-Spanish c = ap language_stop_words (sym c.in-Spanish.is)

pub returns-in-Swedish : goal.returns-in-Swedish
unfolding swedish_stop_words
returns-in-Swedish c = ap language_stop_words (sym c.in-Swedish.is)

pub returns-in-Turkish : goal.returns-in-Turkish
unfolding turkish_stop_words
returns-in-Turkish c = ap language_stop_words (sym c.in-Turkish.is)
