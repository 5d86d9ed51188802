-- The stop words of the built-in languages, as texts. A proof sees the words of a list only where
-- it asks for them.
use Rattle.std.specs.Prelude.{◌==◌, List, [], map}
use Rattle.std.specs.List.{slice_split}
use Rattle.std.specs.Str.{chars}
use Rattle.elasticlunr_text.specs.Text.{Text, Bytes}
use Rattle.elasticlunr_lang.specs.declared.any.AnyLanguage.{AnyLanguage}
use Rattle.elasticlunr_lang.specs.declared.any.AnyLanguage.TheVariants.{English, Arabic, Danish}
use Rattle.elasticlunr_lang.specs.declared.any.AnyLanguage.TheVariants.{Dutch, Finnish, French}
use Rattle.elasticlunr_lang.specs.declared.any.AnyLanguage.TheVariants.{German, Italian, Korean}
use Rattle.elasticlunr_lang.specs.declared.any.AnyLanguage.TheVariants.{Norwegian, Portuguese}
use Rattle.elasticlunr_lang.specs.declared.any.AnyLanguage.TheVariants.{Romanian, Russian, Spanish}
use Rattle.elasticlunr_lang.specs.declared.any.AnyLanguage.TheVariants.{Swedish, Turkish}
use Rattle.elasticlunr_lang.specs.declared.stop_words.en.TheConstants as en
use Rattle.elasticlunr_lang.specs.declared.stop_words.da.TheConstants as da
use Rattle.elasticlunr_lang.specs.declared.stop_words.du.TheConstants as du
use Rattle.elasticlunr_lang.specs.declared.stop_words.fi.TheConstants as fi
use Rattle.elasticlunr_lang.specs.declared.stop_words.fr.TheConstants as fr
use Rattle.elasticlunr_lang.specs.declared.stop_words.de.TheConstants as de
use Rattle.elasticlunr_lang.specs.declared.stop_words.it.TheConstants as it
use Rattle.elasticlunr_lang.specs.declared.stop_words.ko.TheConstants as ko
use Rattle.elasticlunr_lang.specs.declared.stop_words.no.TheConstants as no
use Rattle.elasticlunr_lang.specs.declared.stop_words.pt.TheConstants as pt
use Rattle.elasticlunr_lang.specs.declared.stop_words.ro.TheConstants as ro
use Rattle.elasticlunr_lang.specs.declared.stop_words.ru.TheConstants as ru
use Rattle.elasticlunr_lang.specs.declared.stop_words.es.TheConstants as es
use Rattle.elasticlunr_lang.specs.declared.stop_words.sv.TheConstants as sv
use Rattle.elasticlunr_lang.specs.declared.stop_words.tr.TheConstants as tr

-- the words of a list, with commas between them
abbrev pub listed_words : Bytes → List Text
listed_words list = map chars (slice_split (λ byte. byte == 0x2C) list)

unfoldable pub english_stop_words : List Text
english_stop_words = listed_words en.STOP_WORDS.now

unfoldable pub danish_stop_words : List Text
danish_stop_words = listed_words da.STOP_WORDS.now

unfoldable pub dutch_stop_words : List Text
dutch_stop_words = listed_words du.STOP_WORDS.now

unfoldable pub finnish_stop_words : List Text
finnish_stop_words = listed_words fi.STOP_WORDS.now

unfoldable pub french_stop_words : List Text
french_stop_words = listed_words fr.STOP_WORDS.now

unfoldable pub german_stop_words : List Text
german_stop_words = listed_words de.STOP_WORDS.now

unfoldable pub italian_stop_words : List Text
italian_stop_words = listed_words it.STOP_WORDS.now

unfoldable pub korean_stop_words : List Text
korean_stop_words = listed_words ko.STOP_WORDS.now

unfoldable pub norwegian_stop_words : List Text
norwegian_stop_words = listed_words no.STOP_WORDS.now

unfoldable pub portuguese_stop_words : List Text
portuguese_stop_words = listed_words pt.STOP_WORDS.now

unfoldable pub romanian_stop_words : List Text
romanian_stop_words = listed_words ro.STOP_WORDS.now

unfoldable pub russian_stop_words : List Text
russian_stop_words = listed_words ru.STOP_WORDS.now

unfoldable pub spanish_stop_words : List Text
spanish_stop_words = listed_words es.STOP_WORDS.now

unfoldable pub swedish_stop_words : List Text
swedish_stop_words = listed_words sv.STOP_WORDS.now

unfoldable pub turkish_stop_words : List Text
turkish_stop_words = listed_words tr.STOP_WORDS.now

-- the words that the pipeline of a language drops
abbrev pub language_stop_words : AnyLanguage → List Text
language_stop_words English = english_stop_words
language_stop_words Arabic = listed_words []
language_stop_words Danish = danish_stop_words
language_stop_words Dutch = dutch_stop_words
language_stop_words Finnish = finnish_stop_words
language_stop_words French = french_stop_words
language_stop_words German = german_stop_words
language_stop_words Italian = italian_stop_words
language_stop_words Korean = korean_stop_words
language_stop_words Norwegian = norwegian_stop_words
language_stop_words Portuguese = portuguese_stop_words
language_stop_words Romanian = romanian_stop_words
language_stop_words Russian = russian_stop_words
language_stop_words Spanish = spanish_stop_words
language_stop_words Swedish = swedish_stop_words
language_stop_words Turkish = turkish_stop_words
